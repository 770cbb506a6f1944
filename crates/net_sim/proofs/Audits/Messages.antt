-- The test of messages is true exactly where they are safe.
use Rattle.net_sim.proofs.Common.{◌≡◌, ℕ, ◌+◌, ◌<◌, Bool, true, false, List, ◌∷◌, ◌++◌, length, take, drop, get_or, refl, ap, sym, subst, ◌∙◌, if◌then◌else◌, inl, inr, ◌⊎◌, ◌-◌, Option, Some, arith, same_flow, SafeMessages, Flow, Answer, Crossing, HostMessage, and_true, or_false, same_flow-true, messages_hold, before, is_none, cases_lt, take-append-drop, take_all, reverse-append, length-reverse}
use Rattle.std.proofs.Common.{[], reverse}
use Rattle.interface.specs.Messages.{SinceLastOut, TakenOnce, taken_in, went_out}
use Rattle.interface.specs.declared.crossing.Answer.TheVariants as answer
use Rattle.interface.specs.declared.crossing.Crossing.TheVariants as crossing
use Rattle.interface.proofs.lemmas.{same_flow-refl}
use Rattle.net_sim.specs.Inside.Audit.{is_fresh, was_taken, answer_holds, crossing_holds, Found}
use Rattle.std.proofs.lemmas.Bool.{and_from, false_from_ne_true}
use Rattle.net_sim.proofs.Audits.Elements.{false_not}
use Rattle.net_sim.proofs.Audits.Requests.{before_inside}
use Rattle.net_sim.proofs.Audits.Searches.{none_found}
use Rattle.net_sim.proofs.Audits.Steps.{same_bits-true, same_bits-is, reverse_more}

pub same_yes : (f g : Flow) → g ≡ f → same_flow f g ≡ true
same_yes f g e = let P : Flow → Type 0 = λ x. same_flow f x ≡ true in subst P (sym e) (same_flow-refl f)

-- ---- the part of a log in which nothing of the flow went out

-- what a message finds that would be taken next
pub record Finds (f : Flow) (m : HostMessage) (since : List Crossing) (text : List Bool) : Type 0 where
  pub none : taken_in f since ≡ []
  pub same : text ≡ m.text

-- a fresh taking finds that nothing was taken since, and has the text that went out
finds_in : (f : Flow) (m o x : HostMessage) (since rest : List Crossing) → (b : Bool) → same_flow f x.flow ≡ b
    → (if b then false else is_fresh m (since ++ rest)) ≡ true → (is_fresh m (since ++ rest) ≡ true → Finds f m since o.text) → Finds f m (crossing.In x ∷ since) o.text
finds_in f m o x since rest true e h rec = absurd (cc)
finds_in f m o x since rest false e h rec = record { none = rw e (rec h).none; same = (rec h).same }

finds_out : (m x : HostMessage) (log : List Crossing) → same_flow m.flow x.flow ≡ false → is_fresh m (crossing.Out x ∷ log) ≡ true → is_fresh m log ≡ true
finds_out m x log e h = rw e at h

finds : (m o : HostMessage) (since rest : List Crossing) → o.flow ≡ m.flow → went_out m.flow since ≡ false → is_fresh m (since ++ crossing.Out o ∷ rest) ≡ true
    → Finds m.flow m since o.text
finds m o [] rest e n h =
    let same : same_flow m.flow o.flow ≡ true = same_yes m.flow o.flow e in
    record { none = refl; same = same_bits-true o.text m.text (rw same at h) }
finds m o (crossing.Out x ∷ since) rest e n h =
    let t = or_false (same_flow m.flow x.flow) (went_out m.flow since) n in
    let below : Finds m.flow m since o.text = finds m o since rest e t.1 (finds_out m x (since ++ crossing.Out o ∷ rest) t.0 h) in
    record { none = below.none; same = below.same }
finds m o (crossing.In x ∷ since) rest e n h = finds_in m.flow m o x since (crossing.Out o ∷ rest) (same_flow m.flow x.flow) refl h (finds m o since rest e n)
finds m o (crossing.Answer k g ∷ since) rest e n h = let below = finds m o since rest e n h in record { none = below.none; same = below.same }
finds m o (crossing.Down g ∷ since) rest e n h = let below = finds m o since rest e n h in record { none = below.none; same = below.same }
finds m o (crossing.Up g ∷ since) rest e n h = let below = finds m o since rest e n h in record { none = below.none; same = below.same }

-- the other way round
fresh_in : (m x o : HostMessage) (since rest : List Crossing) → (b : Bool) → same_flow m.flow x.flow ≡ b → taken_in m.flow (crossing.In x ∷ since) ≡ []
    → (taken_in m.flow since ≡ [] → is_fresh m (since ++ rest) ≡ true) → is_fresh m (crossing.In x ∷ since ++ rest) ≡ true
fresh_in m x o since rest true e h rec = absurd (let z : x.text ∷ taken_in m.flow since ≡ [] = rw e at h in cc)
fresh_in m x o since rest false e h rec = rw e (rec (rw e at h))

fresh : (m o : HostMessage) (since rest : List Crossing) → o.flow ≡ m.flow → went_out m.flow since ≡ false → taken_in m.flow since ≡ [] → o.text ≡ m.text
    → is_fresh m (since ++ crossing.Out o ∷ rest) ≡ true
fresh m o [] rest e n h t = rw (same_yes m.flow o.flow e) (same_bits-is o.text m.text t)
fresh m o (crossing.Out x ∷ since) rest e n h t =
    let s = or_false (same_flow m.flow x.flow) (went_out m.flow since) n in
    let below : is_fresh m (since ++ crossing.Out o ∷ rest) ≡ true = fresh m o since rest e s.1 h t in
    rw (s.0) below
fresh m o (crossing.In x ∷ since) rest e n h t = fresh_in m x o since (crossing.Out o ∷ rest) (same_flow m.flow x.flow) refl h (λ k. fresh m o since rest e n k t)
fresh m o (crossing.Answer k g ∷ since) rest e n h t = fresh m o since rest e n h t
fresh m o (crossing.Down g ∷ since) rest e n h t = fresh m o since rest e n h t
fresh m o (crossing.Up g ∷ since) rest e n h t = fresh m o since rest e n h t

-- ---- what was taken since

out_false : (b w : Bool) → (if b then false else w) ≡ true → (b ≡ false) × (w ≡ true)
out_false true w h = absurd (cc)
out_false false w h = (refl, h)

in_some : (b w : Bool) (t : List Bool) (ts : List (List Bool)) → (if b then true else w) ≡ true → (if b then t ∷ ts else ts) ≡ [] → (w ≡ true → ts ≡ [] → ⊥) → ⊥
in_some true w t ts h e f = absurd (cc)
in_some false w t ts h e f = f h e

-- where a message was taken since the last one went out, something was taken
taken_some : (f : Flow) (log : List Crossing) → was_taken f log ≡ true → taken_in f log ≡ [] → ⊥
taken_some f [] h e = absurd (cc)
taken_some f (crossing.Out o ∷ log) h e = taken_some f log (out_false (same_flow f o.flow) (was_taken f log) h).1 e
taken_some f (crossing.In o ∷ log) h e = in_some (same_flow f o.flow) (was_taken f log) o.text (taken_in f log) h e (taken_some f log)
taken_some f (crossing.Answer k g ∷ log) h e = taken_some f log h e
taken_some f (crossing.Down g ∷ log) h e = taken_some f log h e
taken_some f (crossing.Up g ∷ log) h e = taken_some f log h e

taken_since : (f : Flow) (o : HostMessage) (since rest : List Crossing) → o.flow ≡ f → was_taken f (since ++ crossing.Out o ∷ rest) ≡ true → taken_in f since ≡ [] → ⊥
taken_since f o [] rest s h e = let t : same_flow f o.flow ≡ false = (out_false (same_flow f o.flow) (was_taken f rest) h).0 in let u : same_flow f o.flow ≡ true = same_yes f o.flow s in cc
taken_since f o (crossing.Out x ∷ since) rest s h e = taken_since f o since rest s (out_false (same_flow f x.flow) (was_taken f (since ++ crossing.Out o ∷ rest)) h).1 e
taken_since f o (crossing.In x ∷ since) rest s h e =
    in_some (same_flow f x.flow) (was_taken f (since ++ crossing.Out o ∷ rest)) x.text (taken_in f since) h e (taken_since f o since rest s)
taken_since f o (crossing.Answer k g ∷ since) rest s h e = taken_since f o since rest s h e
taken_since f o (crossing.Down g ∷ since) rest s h e = taken_since f o since rest s h e
taken_since f o (crossing.Up g ∷ since) rest s h e = taken_since f o since rest s h e

in_taken : (b w : Bool) (t : List Bool) (ts : List (List Bool)) → ((if b then t ∷ ts else ts) ≡ [] → ⊥) → ((ts ≡ [] → ⊥) → w ≡ true) → (if b then true else w) ≡ true
in_taken true w t ts n f = refl
in_taken false w t ts n f = f n

taken_here : (f : Flow) (since rest : List Crossing) → went_out f since ≡ false → (taken_in f since ≡ [] → ⊥) → was_taken f (since ++ rest) ≡ true
taken_here f [] rest n h = absurd (h refl)
taken_here f (crossing.Out x ∷ since) rest n h =
    let t = or_false (same_flow f x.flow) (went_out f since) n in
    let below : was_taken f (since ++ rest) ≡ true = taken_here f since rest t.1 h in
    rw (t.0) below
taken_here f (crossing.In x ∷ since) rest n h = in_taken (same_flow f x.flow) (was_taken f (since ++ rest)) x.text (taken_in f since) h (taken_here f since rest n)
taken_here f (crossing.Answer k g ∷ since) rest n h = taken_here f since rest n h
taken_here f (crossing.Down g ∷ since) rest n h = taken_here f since rest n h
taken_here f (crossing.Up g ∷ since) rest n h = taken_here f since rest n h

-- ---- before the first message out

not_fresh : (m : HostMessage) (log : List Crossing) → went_out m.flow log ≡ false → is_fresh m log ≡ true → ⊥
not_fresh m [] n h = absurd (cc)
not_fresh m (crossing.Out o ∷ log) n h = let t = or_false (same_flow m.flow o.flow) (went_out m.flow log) n in not_fresh m log t.1 (finds_out m o log t.0 h)
not_fresh m (crossing.In o ∷ log) n h = not_fresh m log n (out_false (same_flow m.flow o.flow) (is_fresh m log) h).1
not_fresh m (crossing.Answer k g ∷ log) n h = not_fresh m log n h
not_fresh m (crossing.Down g ∷ log) n h = not_fresh m log n h
not_fresh m (crossing.Up g ∷ log) n h = not_fresh m log n h

none_in : (f : Flow) (m : HostMessage) (log : List Crossing) → is_fresh m log ≡ true → went_out f log ≡ false → taken_in f log ≡ [] → (b : Bool) → same_flow f m.flow ≡ b
    → taken_in f (crossing.In m ∷ log) ≡ []
none_in f m log h n rest true e =
    absurd (let P : Flow → Type 0 = λ g. went_out g log ≡ false in not_fresh m log (subst P (same_flow-true f m.flow e) n) h)
none_in f m log h n rest false e = rw e rest

nothing_before : (f : Flow) (log : List Crossing) → messages_hold log ≡ true → went_out f log ≡ false → taken_in f log ≡ []
nothing_before f [] h n = refl
nothing_before f (crossing.Out m ∷ log) h n = nothing_before f log h (or_false (same_flow f m.flow) (went_out f log) n).1
nothing_before f (crossing.In m ∷ log) h n =
    let t = and_true (is_fresh m log) (messages_hold log) h in none_in f m log t.0 n (nothing_before f log t.1 n) (same_flow f m.flow) refl
nothing_before f (crossing.Answer k g ∷ log) h n = nothing_before f log (and_true (answer_holds k g log) (messages_hold log) h).1 n
nothing_before f (crossing.Down g ∷ log) h n = nothing_before f log h n
nothing_before f (crossing.Up g ∷ log) h n = nothing_before f log h n

-- ---- since a message went out

abbrev pub AtMost : List Bool → List (List Bool) → Type 0
AtMost text taken = (taken ≡ []) ⊎ (taken ≡ text ∷ [])

one_in : (f : Flow) (m x : HostMessage) (since before : List Crossing) → m.flow ≡ f → went_out f since ≡ false → is_fresh x (since ++ crossing.Out m ∷ before) ≡ true
    → AtMost m.text (taken_in f since) → (b : Bool) → same_flow f x.flow ≡ b → AtMost m.text (taken_in f (crossing.In x ∷ since))
one_in f m x since before s n h rest true e =
    let same : f ≡ x.flow = same_flow-true f x.flow e in
    let P : Flow → Type 0 = λ g. went_out g since ≡ false in
    let found : Finds x.flow x since m.text = finds x m since before (s ∙ same) (subst P same n) h in
    let Q : Flow → Type 0 = λ g. taken_in g since ≡ [] in
    let none : taken_in f since ≡ [] = subst Q (sym same) found.none in
    inr (rw e (let text : m.text ≡ x.text = found.same in cc))
one_in f m x since before s n h rest false e = rw e rest

once : (f : Flow) (m : HostMessage) (since before : List Crossing) → m.flow ≡ f → messages_hold (since ++ crossing.Out m ∷ before) ≡ true → went_out f since ≡ false → AtMost m.text (taken_in f since)
once f m [] before s h n = inl refl
once f m (crossing.Out x ∷ since) before s h n = once f m since before s h (or_false (same_flow f x.flow) (went_out f since) n).1
once f m (crossing.In x ∷ since) before s h n =
    let t = and_true (is_fresh x (since ++ crossing.Out m ∷ before)) (messages_hold (since ++ crossing.Out m ∷ before)) h in
    one_in f m x since before s n t.0 (once f m since before s t.1 n) (same_flow f x.flow) refl
once f m (crossing.Answer k g ∷ since) before s h n = once f m since before s (and_true (answer_holds k g (since ++ crossing.Out m ∷ before)) (messages_hold (since ++ crossing.Out m ∷ before)) h).1 n
once f m (crossing.Down g ∷ since) before s h n = once f m since before s h n
once f m (crossing.Up g ∷ since) before s h n = once f m since before s h n

-- ---- the last message out

further : (f : Flow) (c : Crossing) (log : List Crossing) → ((since : List Crossing) → went_out f since ≡ false → went_out f (c ∷ since) ≡ false)
    → (went_out f log ≡ false) ⊎ SinceLastOut f log → (went_out f (c ∷ log) ≡ false) ⊎ SinceLastOut f (c ∷ log)
further f c log keeps rest = elim rest [
  | inl none ↦ inl (keeps log none)
  | inr s ↦ inr (record { since = c ∷ s.since; message = s.message; before = s.before; parts = ap (λ (xs : List Crossing). c ∷ xs) s.parts; flow = s.flow; last = keeps s.since s.last })
]

out_found : (f : Flow) (m : HostMessage) (log : List Crossing) → (went_out f log ≡ false) ⊎ SinceLastOut f log → (b : Bool) → same_flow f m.flow ≡ b
    → (went_out f (crossing.Out m ∷ log) ≡ false) ⊎ SinceLastOut f (crossing.Out m ∷ log)
out_found f m log rest true e = inr (record { since = []; message = m; before = log; parts = refl; flow = sym (same_flow-true f m.flow e); last = refl })
out_found f m log rest false e = further f (crossing.Out m) log (λ since n. rw e n) rest

newest : (f : Flow) (log : List Crossing) → (went_out f log ≡ false) ⊎ SinceLastOut f log
newest f [] = inl refl
newest f (crossing.Out m ∷ log) = out_found f m log (newest f log) (same_flow f m.flow) refl
newest f (crossing.In m ∷ log) = further f (crossing.In m) log (λ since n. n) (newest f log)
newest f (crossing.Answer k g ∷ log) = further f (crossing.Answer k g) log (λ since n. n) (newest f log)
newest f (crossing.Down h ∷ log) = further f (crossing.Down h) log (λ since n. n) (newest f log)
newest f (crossing.Up h ∷ log) = further f (crossing.Up h) log (λ since n. n) (newest f log)

-- ---- from the test

pub holds_below : (newer older : List Crossing) → messages_hold (newer ++ older) ≡ true → messages_hold older ≡ true
holds_below [] older h = h
holds_below (c ∷ newer) older h = holds_below newer older (and_true (crossing_holds c (newer ++ older)) (messages_hold (newer ++ older)) h).1

rfnm : (f : Flow) (log : List Crossing) → messages_hold log ≡ true → was_taken f log ≡ true → TakenOnce f log
rfnm f log h was = elim (newest f log) [
  | inl none ↦ absurd (taken_some f log was (nothing_before f log h none))
  | inr s ↦
      (let P : List Crossing → Type 0 = λ x. messages_hold x ≡ true in
      let Q : List Crossing → Type 0 = λ x. was_taken f x ≡ true in
      record {
        out = s;
        once = elim (once f s.message s.since s.before s.flow (subst P s.parts h) s.last) [
          | inl none ↦ absurd (taken_since f s.message s.since s.before s.flow (subst Q s.parts was) none)
          | inr one ↦ one
        ];
      })
]

safe : (log : List Crossing) → messages_hold log ≡ true → SafeMessages log
safe log h =
    let P : List Crossing → Type 0 = λ x. messages_hold x ≡ true in
    record {
      answered = λ newer older f e.
          (let below : messages_hold (crossing.Answer answer.Rfnm f ∷ older) ≡ true = holds_below newer (crossing.Answer answer.Rfnm f ∷ older) (subst P e h) in
          let t = and_true (was_taken f older) (messages_hold older) below in
          rfnm f older t.1 t.0);
      once = λ newer since before m e n. once m.flow m since before refl (holds_below newer (since ++ crossing.Out m ∷ before) (subst P e h)) n;
      none_before = λ newer older f e n. nothing_before f older (holds_below newer older (subst P e h)) n;
    }

-- ---- to the test

below : (c : Crossing) (log : List Crossing) → SafeMessages (c ∷ log) → SafeMessages log
below c log s =
    let more : (xs ys : List Crossing) → xs ≡ ys → c ∷ xs ≡ c ∷ ys = λ xs ys e. ap (λ (zs : List Crossing). c ∷ zs) e in
    record {
      answered = λ newer older f e. s.answered (c ∷ newer) older f (ap (λ (zs : List Crossing). c ∷ zs) e);
      once = λ newer since before m e n. s.once (c ∷ newer) since before m (ap (λ (zs : List Crossing). c ∷ zs) e) n;
      none_before = λ newer older f e n. s.none_before (c ∷ newer) older f (ap (λ (zs : List Crossing). c ∷ zs) e) n;
    }

-- a list that begins with this text has at most the one
first_is : (t u : List Bool) (ts : List (List Bool)) → AtMost u (t ∷ ts) → (ts ≡ []) × (u ≡ t)
first_is t u ts h = elim h [
  | inl e ↦ absurd (cc)
  | inr e ↦ (cc, cc)
]

needs_in : (m : HostMessage) (log : List Crossing) → SafeMessages (crossing.In m ∷ log) → is_fresh m log ≡ true
needs_in m log s =
    let same : same_flow m.flow m.flow ≡ true = same_flow-refl m.flow in
    elim (newest m.flow log) [
      | inl none ↦
          absurd (let e : taken_in m.flow (crossing.In m ∷ log) ≡ [] = s.none_before [] (crossing.In m ∷ log) m.flow refl none in
          let z : m.text ∷ taken_in m.flow log ≡ [] = rw same at e in cc)
      | inr t ↦
          (let P : Flow → Type 0 = λ g. went_out g t.since ≡ false in
          let Q : Flow → Type 0 = λ g. AtMost t.message.text (taken_in g (crossing.In m ∷ t.since)) in
          let R : List Crossing → Type 0 = λ x. is_fresh m x ≡ true in
          let one : AtMost t.message.text (taken_in t.message.flow (crossing.In m ∷ t.since)) =
          s.once [] (crossing.In m ∷ t.since) t.before t.message (ap (λ (zs : List Crossing). crossing.In m ∷ zs) t.parts) (subst P (sym t.flow) t.last) in
          let here : AtMost t.message.text (taken_in m.flow (crossing.In m ∷ t.since)) = subst Q t.flow one in
          let there : AtMost t.message.text (m.text ∷ taken_in m.flow t.since) = rw same at here in
          let found = first_is m.text t.message.text (taken_in m.flow t.since) there in
          subst R (sym t.parts) (fresh m t.message t.since t.before t.flow t.last found.0 found.1))
    ]

needs_rfnm : (f : Flow) (log : List Crossing) → TakenOnce f log → was_taken f log ≡ true
needs_rfnm f log t =
    let R : List Crossing → Type 0 = λ x. was_taken f x ≡ true in
    let once : taken_in f t.out.since ≡ t.out.message.text ∷ [] = t.once in
    subst R (sym t.out.parts) (taken_here f t.out.since (crossing.Out t.out.message ∷ t.out.before) t.out.last (λ e. absurd (cc)))

needs_answer : (k : Answer) (f : Flow) (log : List Crossing) → SafeMessages (crossing.Answer k f ∷ log) → answer_holds k f log ≡ true
needs_answer answer.Rfnm f log s = needs_rfnm f log (s.answered [] log f refl)
needs_answer k f log s = refl

needs : (c : Crossing) (log : List Crossing) → SafeMessages (c ∷ log) → crossing_holds c log ≡ true
needs (crossing.In m) log s = needs_in m log s
needs (crossing.Answer k f) log s = needs_answer k f log s
needs c log s = refl

holds : (log : List Crossing) → SafeMessages log → messages_hold log ≡ true
holds [] s = refl
holds (c ∷ log) s = and_from (crossing_holds c log) (messages_hold log) (needs c log s) (holds log (below c log s))

-- the test of messages is true exactly where they are safe
pub messages_decide : (log : List Crossing) → (messages_hold log ≡ true → SafeMessages log) × (SafeMessages log → messages_hold log ≡ true)
messages_decide log = (safe log, holds log)

-- ---- the search through the log

-- a crossing that doesn't find what it has to
pub crossing_stops : (log : List Crossing) (i : ℕ) (x : Crossing) → i < length log → x ≡ get_or log i x → crossing_holds x (reverse (take i log)) ≡ false → messages_hold (reverse (take i log)) ≡ true
    → Found (λ n. messages_hold (reverse (take n log))) (length log) (Some i)
crossing_stops log i x lt at e h =
    let more : reverse (take (i + 1) log) ≡ x ∷ reverse (take i log) = reverse_more log i x lt ∙ ap (λ (z : Crossing). z ∷ reverse (take i log)) (sym at) in (
      lt,
      h,
      false_from_ne_true (messages_hold (reverse (take (i + 1) log)))
          (λ t.
          (let here : messages_hold (x ∷ reverse (take i log)) ≡ true = subst (λ (z : List Crossing). messages_hold z ≡ true) more t in
          false_not (crossing_holds x (reverse (take i log))) e (and_true (crossing_holds x (reverse (take i log))) (messages_hold (reverse (take i log))) here).0)),
    )

messages_take : (log : List Crossing) (n : ℕ) → messages_hold (reverse log) ≡ true → messages_hold (reverse (take n log)) ≡ true
messages_take log n h =
    let all : reverse log ≡ reverse (drop n log) ++ reverse (take n log) = ap (λ (xs : List Crossing). reverse xs) (sym (take-append-drop n log)) ∙ reverse-append (take n log) (drop n log) in
    holds_below (reverse (drop n log)) (reverse (take n log)) (subst (λ (z : List Crossing). messages_hold z ≡ true) all h)

-- nothing is found exactly where the test is true
pub none_broken : (log : List Crossing) (r : Option ℕ) → Found (λ n. messages_hold (reverse (take n log))) (length log) r → is_none r ≡ messages_hold (reverse log)
none_broken log r h =
    none_found (λ n. messages_hold (reverse (take n log))) (length log) r (messages_hold (reverse log)) h
    (ap (λ (xs : List Crossing). messages_hold (reverse xs)) (take_all (length log) log (omega arith)))
    (λ n t. messages_take log n t)

-- the first crossings, as their log is read
before_all : (log : List Crossing) (n : ℕ) → before n (reverse log) ≡ reverse (take n log)
before_all log n = elim (cases_lt n (length log)) [
  | inl l ↦ before_inside log n (omega (arith, l))
  | inr l ↦
      (let none : length (reverse log) - n ≡ 0 = omega (arith, l, length-reverse log) in
      ap (λ (m : ℕ). drop m (reverse log)) none ∙ ap (λ (xs : List Crossing). reverse xs) (sym (take_all n log l)))
]

pub messages_at : (log : List Crossing) (n : ℕ)
    → (messages_hold (reverse (take n log)) ≡ true → SafeMessages (before n (reverse log))) × (SafeMessages (before n (reverse log)) → messages_hold (reverse (take n log)) ≡ true)
messages_at log n = (
  λ h. subst SafeMessages (sym (before_all log n)) ((messages_decide (reverse (take n log))).0 h),
  λ s. (messages_decide (reverse (take n log))).1 (subst SafeMessages (before_all log n) s),
)
