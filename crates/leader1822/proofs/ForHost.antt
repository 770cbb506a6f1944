-- What waits for each host, when one queue changes.
use Rattle.leader1822.proofs.Common.{append-nil, eq_by_cmp_equiv, Ordering, Less, Equal, Greater, empty, get, get-empty, get-insert, get-remove, Host, host_cmp, same_host, same_flow, texts_of, kinds_of, AreTo, AreToldTo, Flow, Answer, HostMessage}
use Rattle.std.proofs.Common.{◌≡◌, Bool, true, false, List, [], ◌∷◌, ◌++◌, Option, Some, None, unwrap_or, filter, map, cond, refl, ap, sym, subst, ◌∙◌, if◌then◌else◌, append_assoc}
use Rattle.std.specs.Ordering.{eq_by_cmp, is_eq}
use Rattle.leader1822.specs.Boxes.{Queues, WaitingAnswer, for_host, with_queue, queued_if, rest, is_told_to, is_of, is_about, is_running, one_if, told_dead}
use Rattle.interface.specs.declared.crossing.Answer.TheVariants as answer
use Rattle.interface.proofs.lemmas.{both_ways, exact_hosts, hosts_total, same_flow-refl, same_flow-true, same_host-refl, same_host-true, is_equal}
use Rattle.leader1822.proofs.Waiting.{texts_of-append, kinds_of-append, texts_one_same, texts_one_other, kinds_one_same, kinds_one_other, if_same}

-- ---- one queue

-- hosts compare alike exactly where they are one
pub eq_host : (g h : Host) → eq_by_cmp host_cmp g h ≡ same_host g h
eq_host g h = both_ways (eq_by_cmp host_cmp g h) (same_host g h)
    (λ e. let P : Host → Type 0 = λ x. same_host g x ≡ true in subst P (exact_hosts g h (is_equal (host_cmp g h) e)) (same_host-refl g))
    (λ e. let P : Host → Type 0 = λ x. eq_by_cmp host_cmp g x ≡ true in subst P (same_host-true g h e) ((eq_by_cmp_equiv hosts_total).refl g))

chosen : {A : Type 0} (b c : Bool) (o p : Option (List A)) → b ≡ c → unwrap_or (cond b o p) [] ≡ (if c then unwrap_or o [] else unwrap_or p [])
chosen true true o p e = refl
chosen false false o p e = refl
chosen true false o p e = absurd (cc)
chosen false true o p e = absurd (cc)

-- one queue changes, and no other does
pub for_with : {A : Type 0} (q : Queues A) (h : Host) (xs : List A) (g : Host) → for_host (with_queue q h xs) g ≡ (if same_host g h then xs else for_host q g)
for_with {A} q h [] g = ap (λ (o : Option (List A)). unwrap_or o []) (get-remove hosts_total q h g) ∙ chosen (eq_by_cmp host_cmp g h) (same_host g h) None (get q g) (eq_host g h)
for_with {A} q h (x ∷ xs) g = ap (λ (o : Option (List A)). unwrap_or o []) (get-insert hosts_total q h (x ∷ xs) g) ∙ chosen (eq_by_cmp host_cmp g h) (same_host g h) (Some (x ∷ xs)) (get q g) (eq_host g h)

pub for_with_here : {A : Type 0} (q : Queues A) (h : Host) (xs : List A) → for_host (with_queue q h xs) h ≡ xs
for_with_here {A} q h xs = for_with q h xs h ∙ ap (λ (b : Bool). if b then xs else for_host q h) (same_host-refl h)

pub for_with_other : {A : Type 0} (q : Queues A) (h : Host) (xs : List A) (g : Host) → same_host g h ≡ false → for_host (with_queue q h xs) g ≡ for_host q g
for_with_other {A} q h xs g e = for_with q h xs g ∙ ap (λ (b : Bool). if b then xs else for_host q g) e

for_queued_here : {A : Type 0} (t : Bool) (q : Queues A) (h : Host) (x : A) → for_host (queued_if t q h x) h ≡ for_host q h ++ one_if t x
for_queued_here true q h x = for_with_here q h (for_host q h ++ x ∷ [])
for_queued_here false q h x = sym (append-nil (for_host q h))

for_queued_other : {A : Type 0} (t : Bool) (q : Queues A) (h : Host) (x : A) (g : Host) → same_host g h ≡ false → for_host (queued_if t q h x) g ≡ for_host q g
for_queued_other true q h x g e = for_with_other q h (for_host q h ++ x ∷ []) g e
for_queued_other false q h x g e = refl

pub for_none : {A : Type 0} (h : Host) → for_host {A = A} empty h ≡ []
for_none {A} h = ap (λ (o : Option (List A)). unwrap_or o []) (get-empty host_cmp h)

-- ---- one more of a flow

pub texts_queued_same : (t : Bool) (q : Queues HostMessage) (m : HostMessage)
    → texts_of m.flow (for_host (queued_if t q m.flow.destination m) m.flow.destination) ≡ texts_of m.flow (for_host q m.flow.destination) ++ one_if t m.text
texts_queued_same t q m =
    ap (texts_of m.flow) (for_queued_here t q m.flow.destination m) ∙ texts_of-append m.flow (for_host q m.flow.destination) (one_if t m)
    ∙ ap (λ (ts : List (List Bool)). texts_of m.flow (for_host q m.flow.destination) ++ ts) (texts_one_same m t)

pub texts_queued_other : (t : Bool) (q : Queues HostMessage) (m : HostMessage) (g : Flow) → same_flow g m.flow ≡ false
    → texts_of g (for_host (queued_if t q m.flow.destination m) g.destination) ≡ texts_of g (for_host q g.destination)
texts_queued_other t q m g e = by (same_host g.destination m.flow.destination) refl where
  by : (b : Bool) → same_host g.destination m.flow.destination ≡ b → texts_of g (for_host (queued_if t q m.flow.destination m) g.destination) ≡ texts_of g (for_host q g.destination)
  by true s =
      let P : Host → Type 0 = λ x. texts_of g (for_host (queued_if t q m.flow.destination m) x) ≡ texts_of g (for_host q x) in
      subst P (sym (same_host-true g.destination m.flow.destination s))
      (ap (texts_of g) (for_queued_here t q m.flow.destination m) ∙ texts_of-append g (for_host q m.flow.destination) (one_if t m)
      ∙ ap (λ (ts : List (List Bool)). texts_of g (for_host q m.flow.destination) ++ ts) (texts_one_other g m t e) ∙ append-nil (texts_of g (for_host q m.flow.destination)))
  by false s = ap (texts_of g) (for_queued_other t q m.flow.destination m g.destination s)

pub kinds_queued_same : (t : Bool) (q : Queues WaitingAnswer) (k : Answer) (f : Flow)
    → kinds_of f (for_host (queued_if t q f.source (k, f)) f.source) ≡ kinds_of f (for_host q f.source) ++ one_if t k
kinds_queued_same t q k f =
    ap (kinds_of f) (for_queued_here t q f.source (k, f)) ∙ kinds_of-append f (for_host q f.source) (one_if t (k, f))
    ∙ ap (λ (ks : List Answer). kinds_of f (for_host q f.source) ++ ks) (kinds_one_same k f t)

pub kinds_queued_other : (t : Bool) (q : Queues WaitingAnswer) (k : Answer) (f g : Flow) → same_flow g f ≡ false
    → kinds_of g (for_host (queued_if t q f.source (k, f)) g.source) ≡ kinds_of g (for_host q g.source)
kinds_queued_other t q k f g e = by (same_host g.source f.source) refl where
  by : (b : Bool) → same_host g.source f.source ≡ b → kinds_of g (for_host (queued_if t q f.source (k, f)) g.source) ≡ kinds_of g (for_host q g.source)
  by true s =
      let P : Host → Type 0 = λ x. kinds_of g (for_host (queued_if t q f.source (k, f)) x) ≡ kinds_of g (for_host q x) in
      subst P (sym (same_host-true g.source f.source s))
      (ap (kinds_of g) (for_queued_here t q f.source (k, f)) ∙ kinds_of-append g (for_host q f.source) (one_if t (k, f))
      ∙ ap (λ (ks : List Answer). kinds_of g (for_host q f.source) ++ ks) (kinds_one_other g k f t e) ∙ append-nil (kinds_of g (for_host q f.source)))
  by false s = ap (kinds_of g) (for_queued_other t q f.source (k, f) g.source s)

-- ---- what waits for a host is for it

AreTo-append : (h : Host) (xs ys : List HostMessage) → AreTo h xs → AreTo h ys → AreTo h (xs ++ ys)
AreTo-append h [] ys p q = q
AreTo-append h (m ∷ xs) ys p q = (p.0, AreTo-append h xs ys p.1 q)

pub AreToldTo-append : (h : Host) (xs ys : List WaitingAnswer) → AreToldTo h xs → AreToldTo h ys → AreToldTo h (xs ++ ys)
AreToldTo-append h [] ys p q = q
AreToldTo-append h (m ∷ xs) ys p q = (p.0, AreToldTo-append h xs ys p.1 q)

pub AreToldTo-one : (h : Host) (t : Bool) (a : WaitingAnswer) → is_told_to h a ≡ true → AreToldTo h (one_if t a)
AreToldTo-one h true a e = (e, tt)
AreToldTo-one h false a e = tt

pub AreTo-filter : (h : Host) (test : HostMessage → Bool) (xs : List HostMessage) → AreTo h xs → AreTo h (filter test xs)
AreTo-filter h test [] p = tt
AreTo-filter h test (m ∷ xs) p = by (test m) refl (AreTo-filter h test xs p.1) where
  by : (b : Bool) → test m ≡ b → AreTo h (filter test xs) → AreTo h (filter test (m ∷ xs))
  by true e others = rw e (p.0, others)
  by false e others = rw e others

pub AreToldTo-filter : (h : Host) (test : WaitingAnswer → Bool) (xs : List WaitingAnswer) → AreToldTo h xs → AreToldTo h (filter test xs)
AreToldTo-filter h test [] p = tt
AreToldTo-filter h test (m ∷ xs) p = by (test m) refl (AreToldTo-filter h test xs p.1) where
  by : (b : Bool) → test m ≡ b → AreToldTo h (filter test xs) → AreToldTo h (filter test (m ∷ xs))
  by true e others = rw e (p.0, others)
  by false e others = rw e others

pub AreTo-rest : (h : Host) (xs : List HostMessage) → AreTo h xs → AreTo h (rest xs)
AreTo-rest h [] p = tt
AreTo-rest h (m ∷ xs) p = p.1

pub AreToldTo-rest : (h : Host) (xs : List WaitingAnswer) → AreToldTo h xs → AreToldTo h (rest xs)
AreToldTo-rest h [] p = tt
AreToldTo-rest h (m ∷ xs) p = p.1

pub sent_with : (q : Queues HostMessage) (g : Host) (xs : List HostMessage) → ((h : Host) → AreTo h (for_host q h)) → AreTo g xs → (h : Host) → AreTo h (for_host (with_queue q g xs) h)
sent_with q g xs all here h = by (same_host h g) refl where
  by : (b : Bool) → same_host h g ≡ b → AreTo h (for_host (with_queue q g xs) h)
  by true e =
      let P : Host → Type 0 = λ x. AreTo x (for_host (with_queue q g xs) x) in
      subst P (sym (same_host-true h g e)) (subst (AreTo g) (sym (for_with_here q g xs)) here)
  by false e = subst (AreTo h) (sym (for_with_other q g xs h e)) (all h)

pub told_with : (q : Queues WaitingAnswer) (g : Host) (xs : List WaitingAnswer) → ((h : Host) → AreToldTo h (for_host q h)) → AreToldTo g xs → (h : Host) → AreToldTo h (for_host (with_queue q g xs) h)
told_with q g xs all here h = by (same_host h g) refl where
  by : (b : Bool) → same_host h g ≡ b → AreToldTo h (for_host (with_queue q g xs) h)
  by true e =
      let P : Host → Type 0 = λ x. AreToldTo x (for_host (with_queue q g xs) x) in
      subst P (sym (same_host-true h g e)) (subst (AreToldTo g) (sym (for_with_here q g xs)) here)
  by false e = subst (AreToldTo h) (sym (for_with_other q g xs h e)) (all h)

pub sent_queued : (t : Bool) (q : Queues HostMessage) (m : HostMessage) → ((h : Host) → AreTo h (for_host q h)) → (h : Host) → AreTo h (for_host (queued_if t q m.flow.destination m) h)
sent_queued true q m all h =
    sent_with q m.flow.destination (for_host q m.flow.destination ++ m ∷ []) all
    (AreTo-append m.flow.destination (for_host q m.flow.destination) (m ∷ []) (all m.flow.destination) (same_host-refl m.flow.destination, tt)) h
sent_queued false q m all h = all h

pub told_queued : (t : Bool) (q : Queues WaitingAnswer) (k : Answer) (f : Flow) → ((h : Host) → AreToldTo h (for_host q h)) → (h : Host) → AreToldTo h (for_host (queued_if t q f.source (k, f)) h)
told_queued true q k f all h =
    told_with q f.source (for_host q f.source ++ (k, f) ∷ []) all
    (AreToldTo-append f.source (for_host q f.source) ((k, f) ∷ []) (all f.source) (same_host-refl f.source, tt)) h
told_queued false q k f all h = all h

-- a flow for another host has nothing among what waits for this one
pub texts_elsewhere : (h : Host) (xs : List HostMessage) (g : Flow) → AreTo h xs → same_host g.destination h ≡ false → texts_of g xs ≡ []
texts_elsewhere h [] g p e = refl
texts_elsewhere h (m ∷ xs) g p e = by (is_of g m) refl (texts_elsewhere h xs g p.1 e) where
  by : (b : Bool) → is_of g m ≡ b → texts_of g xs ≡ [] → texts_of g (m ∷ xs) ≡ []
  by true o others =
      let here : h ≡ m.flow.destination = same_host-true h m.flow.destination p.0 in
      let there : g.destination ≡ h = ap (λ (f : Flow). f.destination) (same_flow-true g m.flow o) ∙ sym here in
      let same : same_host g.destination h ≡ true = (let P : Host → Type 0 = λ x. same_host g.destination x ≡ true in subst P there (same_host-refl g.destination)) in
      absurd (let c : true ≡ false = sym same ∙ e in cc)
  by false o others = rw o others

pub kinds_elsewhere : (h : Host) (xs : List WaitingAnswer) (g : Flow) → AreToldTo h xs → same_host g.source h ≡ false → kinds_of g xs ≡ []
kinds_elsewhere h [] g p e = refl
kinds_elsewhere h (a ∷ xs) g p e = by (is_about g a) refl (kinds_elsewhere h xs g p.1 e) where
  by : (b : Bool) → is_about g a ≡ b → kinds_of g xs ≡ [] → kinds_of g (a ∷ xs) ≡ []
  by true o others =
      let here : h ≡ a.1.source = same_host-true h a.1.source p.0 in
      let there : g.source ≡ h = ap (λ (f : Flow). f.source) (same_flow-true g a.1 o) ∙ sym here in
      let same : same_host g.source h ≡ true = (let P : Host → Type 0 = λ x. same_host g.source x ≡ true in subst P there (same_host-refl g.source)) in
      absurd (let c : true ≡ false = sym same ∙ e in cc)
  by false o others = rw o others

-- ---- what is reported of messages that a host leaves to others

pub told_told : (hosts down : List Host) (q : Queues WaitingAnswer) (ms : List HostMessage) → ((h : Host) → AreToldTo h (for_host q h)) → (h : Host) → AreToldTo h (for_host (told_dead hosts down q ms) h)
told_told hosts down q [] all h = all h
told_told hosts down q (m ∷ ms) all h =
    told_told hosts down (queued_if (is_running hosts down m.flow.source) q m.flow.source (answer.Dead, m.flow)) ms
    (told_queued (is_running hosts down m.flow.source) q answer.Dead m.flow all) h

-- Dead for each text of a flow whose source runs
abbrev pub deads : Bool → List (List Bool) → List Answer
deads running ts = if running then map (λ t. answer.Dead) ts else []

more_deads : (t : Bool) (ks : List Answer) (x : List Bool) (ts : List (List Bool)) → (ks ++ one_if t answer.Dead) ++ deads t ts ≡ ks ++ deads t (x ∷ ts)
more_deads true ks x ts = append_assoc ks (answer.Dead ∷ []) (deads true ts)
more_deads false ks x ts = ap (λ (xs : List Answer). xs ++ []) (append-nil ks)

abbrev ToldDead : List Host → List Host → Queues WaitingAnswer → List HostMessage → Flow → Type 0
ToldDead hosts down q ms g = kinds_of g (for_host (told_dead hosts down q ms) g.source) ≡ kinds_of g (for_host q g.source) ++ deads (is_running hosts down g.source) (texts_of g ms)

told_same : (hosts down : List Host) (q : Queues WaitingAnswer) (m : HostMessage) (ms : List HostMessage)
    → ToldDead hosts down (queued_if (is_running hosts down m.flow.source) q m.flow.source (answer.Dead, m.flow)) ms m.flow → ToldDead hosts down q (m ∷ ms) m.flow
told_same hosts down q m ms before =
    let f = m.flow in
    let t = is_running hosts down f.source in
    let here : texts_of f (m ∷ ms) ≡ m.text ∷ texts_of f ms = rw (same_flow-refl f) refl in
    before ∙ ap (λ (ks : List Answer). ks ++ deads t (texts_of f ms)) (kinds_queued_same t q answer.Dead f)
    ∙ more_deads t (kinds_of f (for_host q f.source)) m.text (texts_of f ms)
    ∙ ap (λ (ts : List (List Bool)). kinds_of f (for_host q f.source) ++ deads t ts) (sym here)

told_other : (hosts down : List Host) (g : Flow) (q : Queues WaitingAnswer) (m : HostMessage) (ms : List HostMessage) → is_of g m ≡ false
    → ToldDead hosts down (queued_if (is_running hosts down m.flow.source) q m.flow.source (answer.Dead, m.flow)) ms g → ToldDead hosts down q (m ∷ ms) g
told_other hosts down g q m ms other before =
    let t = is_running hosts down m.flow.source in
    let r = is_running hosts down g.source in
    let there : texts_of g (m ∷ ms) ≡ texts_of g ms = rw other refl in
    before ∙ ap (λ (ks : List Answer). ks ++ deads r (texts_of g ms)) (kinds_queued_other t q answer.Dead m.flow g other)
    ∙ ap (λ (ts : List (List Bool)). kinds_of g (for_host q g.source) ++ deads r ts) (sym there)

told_more : (hosts down : List Host) (g : Flow) (q : Queues WaitingAnswer) (m : HostMessage) (ms : List HostMessage)
    → ToldDead hosts down (queued_if (is_running hosts down m.flow.source) q m.flow.source (answer.Dead, m.flow)) ms g
    → (b : Bool) → is_of g m ≡ b → ToldDead hosts down q (m ∷ ms) g
told_more hosts down g q m ms before true e =
    let P : Flow → Type 0 = λ x. ToldDead hosts down (queued_if (is_running hosts down m.flow.source) q m.flow.source (answer.Dead, m.flow)) ms x in
    let Q : Flow → Type 0 = λ x. ToldDead hosts down q (m ∷ ms) x in
    subst Q (sym (same_flow-true g m.flow e)) (told_same hosts down q m ms (subst P (same_flow-true g m.flow e) before))
told_more hosts down g q m ms before false e = told_other hosts down g q m ms e before

pub kinds_told : (hosts down : List Host) (g : Flow) (q : Queues WaitingAnswer) (ms : List HostMessage)
    → kinds_of g (for_host (told_dead hosts down q ms) g.source) ≡ kinds_of g (for_host q g.source) ++ deads (is_running hosts down g.source) (texts_of g ms)
kinds_told hosts down g q [] = sym (ap (λ (ks : List Answer). kinds_of g (for_host q g.source) ++ ks) (sym (if_same (is_running hosts down g.source))) ∙ append-nil (kinds_of g (for_host q g.source)))
kinds_told hosts down g q (m ∷ ms) =
    let next : Queues WaitingAnswer = queued_if (is_running hosts down m.flow.source) q m.flow.source (answer.Dead, m.flow) in
    told_more hosts down g q m ms (kinds_told hosts down g next ms) (is_of g m) refl
