-- What waits of one flow, when the queue and the answers change.
use Rattle.leader1822.proofs.Common.{list_any, same_host, same_flow, texts_of, kinds_of, Flow, Answer, HostMessage}
use Rattle.std.proofs.Common.{◌≡◌, Bool, true, false, ◌||◌, List, [], ◌∷◌, ◌++◌, filter, refl, ap, sym, ◌∙◌, if◌then◌else◌, append_assoc}
use Rattle.leader1822.specs.Boxes.{WaitingAnswer, is_of, is_about, is_rfnm, is_rfnm_about, is_from, one_if}
use Rattle.interface.proofs.lemmas.{or_false, same_flow-refl, same_flow-true, same_host-refl}

-- ---- one after another

pub texts_of-append : (f : Flow) (xs ys : List HostMessage) → texts_of f (xs ++ ys) ≡ texts_of f xs ++ texts_of f ys
texts_of-append f [] ys = refl
texts_of-append f (m ∷ xs) ys =
    let here = (if is_of f m then m.text ∷ [] else []) in
    ap (λ (ts : List (List Bool)). here ++ ts) (texts_of-append f xs ys) ∙ sym (append_assoc here (texts_of f xs) (texts_of f ys))

pub kinds_of-append : (f : Flow) (xs ys : List WaitingAnswer) → kinds_of f (xs ++ ys) ≡ kinds_of f xs ++ kinds_of f ys
kinds_of-append f [] ys = refl
kinds_of-append f (a ∷ xs) ys =
    let here = (if is_about f a then a.0 ∷ [] else []) in
    ap (λ (ks : List Answer). here ++ ks) (kinds_of-append f xs ys) ∙ sym (append_assoc here (kinds_of f xs) (kinds_of f ys))

-- ---- one more, of this flow or of another

pub texts_one_same : (m : HostMessage) (test : Bool) → texts_of m.flow (one_if test m) ≡ one_if test m.text
texts_one_same m true = rw (same_flow-refl m.flow) refl
texts_one_same m false = refl

pub texts_one_other : (f : Flow) (m : HostMessage) (test : Bool) → is_of f m ≡ false → texts_of f (one_if test m) ≡ []
texts_one_other f m true e = rw e refl
texts_one_other f m false e = refl

pub kinds_one_same : (k : Answer) (f : Flow) (test : Bool) → kinds_of f (one_if test (k, f)) ≡ one_if test k
kinds_one_same k f true = rw (same_flow-refl f) refl
kinds_one_same k f false = refl

pub kinds_one_other : (g : Flow) (k : Answer) (f : Flow) (test : Bool) → same_flow g f ≡ false → kinds_of g (one_if test (k, f)) ≡ []
kinds_one_other g k f true e = rw e refl
kinds_one_other g k f false e = refl

-- ---- what a filter leaves

texts_filter_more : (f : Flow) (test : HostMessage → Bool) (m : HostMessage) (q : List HostMessage)
    → texts_of f (filter test q) ≡ filter (λ t. test (record { flow = f; text = t })) (texts_of f q)
    → (b c : Bool) → is_of f m ≡ b → test m ≡ c
    → texts_of f (filter test (m ∷ q)) ≡ filter (λ t. test (record { flow = f; text = t })) (texts_of f (m ∷ q))
texts_filter_more f test m q rest true true e t =
    let p : test (record { flow = f; text = m.text }) ≡ true = ap (λ (g : Flow). test (record { flow = g; text = m.text })) (same_flow-true f m.flow e) ∙ t in
    rw (t, e, p) (ap (λ (ts : List (List Bool)). m.text ∷ ts) rest)
texts_filter_more f test m q rest true false e t =
    let p : test (record { flow = f; text = m.text }) ≡ false = ap (λ (g : Flow). test (record { flow = g; text = m.text })) (same_flow-true f m.flow e) ∙ t in
    rw (t, e, p) rest
texts_filter_more f test m q rest false true e t = rw (t, e) rest
texts_filter_more f test m q rest false false e t = rw (t, e) rest

pub texts_of-filter : (f : Flow) (test : HostMessage → Bool) (q : List HostMessage)
    → texts_of f (filter test q) ≡ filter (λ t. test (record { flow = f; text = t })) (texts_of f q)
texts_of-filter f test [] = refl
texts_of-filter f test (m ∷ q) = texts_filter_more f test m q (texts_of-filter f test q) (is_of f m) (test m) refl refl

kinds_filter_more : (f : Flow) (test : WaitingAnswer → Bool) (a : WaitingAnswer) (xs : List WaitingAnswer) → kinds_of f (filter test xs) ≡ filter (λ k. test (k, f)) (kinds_of f xs)
    → (b c : Bool) → is_about f a ≡ b → test a ≡ c → kinds_of f (filter test (a ∷ xs)) ≡ filter (λ k. test (k, f)) (kinds_of f (a ∷ xs))
kinds_filter_more f test a xs rest true true e t =
    let p : test (a.0, f) ≡ true = ap (λ (g : Flow). test (a.0, g)) (same_flow-true f a.1 e) ∙ t in
    rw (t, e, p) (ap (λ (ks : List Answer). a.0 ∷ ks) rest)
kinds_filter_more f test a xs rest true false e t =
    let p : test (a.0, f) ≡ false = ap (λ (g : Flow). test (a.0, g)) (same_flow-true f a.1 e) ∙ t in
    rw (t, e, p) rest
kinds_filter_more f test a xs rest false true e t = rw (t, e) rest
kinds_filter_more f test a xs rest false false e t = rw (t, e) rest

pub kinds_of-filter : (f : Flow) (test : WaitingAnswer → Bool) (xs : List WaitingAnswer) → kinds_of f (filter test xs) ≡ filter (λ k. test (k, f)) (kinds_of f xs)
kinds_of-filter f test [] = refl
kinds_of-filter f test (a ∷ xs) = kinds_filter_more f test a xs (kinds_of-filter f test xs) (is_about f a) (test a) refl refl

-- a filter that looks at nothing
pub filter_all : {A : Type 0} (b : Bool) (xs : List A) → filter (λ x. b) xs ≡ (if b then xs else [])
filter_all true [] = refl
filter_all {A} true (x ∷ xs) = ap (λ (ys : List A). x ∷ ys) (filter_all true xs)
filter_all false [] = refl
filter_all false (x ∷ xs) = filter_all false xs

pub if_same : {A : Type 0} {x : A} (b : Bool) → x ≡ (if b then x else x)
if_same true = refl
if_same false = refl

-- ---- tests of what waits

abbrev pub has_any : {A : Type 0} → List A → Bool
has_any [] = false
has_any (x ∷ xs) = true

any_of_more : (f : Flow) (m : HostMessage) (q : List HostMessage) → list_any (is_of f) q ≡ has_any (texts_of f q)
    → (b : Bool) → is_of f m ≡ b → list_any (is_of f) (m ∷ q) ≡ has_any (texts_of f (m ∷ q))
any_of_more f m q rest true e = rw e refl
any_of_more f m q rest false e = rw e rest

pub any_of : (f : Flow) (q : List HostMessage) → list_any (is_of f) q ≡ has_any (texts_of f q)
any_of f [] = refl
any_of f (m ∷ q) = any_of_more f m q (any_of f q) (is_of f m) refl

any_about_more : (f : Flow) (a : WaitingAnswer) (xs : List WaitingAnswer) → list_any (is_about f) xs ≡ has_any (kinds_of f xs)
    → (b : Bool) → is_about f a ≡ b → list_any (is_about f) (a ∷ xs) ≡ has_any (kinds_of f (a ∷ xs))
any_about_more f a xs rest true e = rw e refl
any_about_more f a xs rest false e = rw e rest

pub any_about : (f : Flow) (xs : List WaitingAnswer) → list_any (is_about f) xs ≡ has_any (kinds_of f xs)
any_about f [] = refl
any_about f (a ∷ xs) = any_about_more f a xs (any_about f xs) (is_about f a) refl

pub none_waits : {A : Type 0} (xs : List A) → has_any xs ≡ false → xs ≡ []
none_waits [] e = refl
none_waits (x ∷ xs) e = absurd (cc)

any_rfnm_more : (f : Flow) (a : WaitingAnswer) (xs : List WaitingAnswer) → list_any (is_rfnm_about f) xs ≡ list_any is_rfnm (kinds_of f xs)
    → (b : Bool) → is_about f a ≡ b → list_any (is_rfnm_about f) (a ∷ xs) ≡ list_any is_rfnm (kinds_of f (a ∷ xs))
any_rfnm_more f a xs rest true e = rw e (ap (λ (v : Bool). is_rfnm a.0 || v) rest)
any_rfnm_more f a xs rest false e = rw e rest

pub any_rfnm : (f : Flow) (xs : List WaitingAnswer) → list_any (is_rfnm_about f) xs ≡ list_any is_rfnm (kinds_of f xs)
any_rfnm f [] = refl
any_rfnm f (a ∷ xs) = any_rfnm_more f a xs (any_rfnm f xs) (is_about f a) refl

none_from_more : (f : Flow) (m : HostMessage) (q : List HostMessage) → is_from f.source m ≡ false → texts_of f q ≡ []
    → (b : Bool) → is_of f m ≡ b → texts_of f (m ∷ q) ≡ []
none_from_more f m q from rest true e =
    let same : is_from f.source m ≡ true = ap (λ (g : Flow). same_host g.source m.flow.source) (same_flow-true f m.flow e) ∙ same_host-refl m.flow.source in
    absurd (cc)
none_from_more f m q from rest false e = rw e rest

-- no message of a host waits: none of its flows has one
pub none_from : (f : Flow) (q : List HostMessage) → list_any (is_from f.source) q ≡ false → texts_of f q ≡ []
none_from f [] e = refl
none_from f (m ∷ q) e =
    let t : (is_from f.source m ≡ false) × (list_any (is_from f.source) q ≡ false) = or_false (is_from f.source m) (list_any (is_from f.source) q) e in
    none_from_more f m q t.0 (none_from f q t.1) (is_of f m) refl
