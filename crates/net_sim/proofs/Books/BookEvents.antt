-- What resets see of a book is what they see of its moments.
use Rattle.net_sim.proofs.Common.{◌≡◌, inl, inr, ℕ, ◌+◌, ◌<◌, ◌≤◌, Bool, true, false, ◌==◌, if◌then◌else◌, List, [], ◌∷◌, ◌++◌, length, refl, ap, sym, subst, ◌∙◌, arith, eq-eqb, append-nil, eqb-true, Host, Crossing, Request, Box, WaitsWith, Fits, boxes, posted, Contact, In, Idle, part_of, place, Pair, pair_moved, pair, Needs, Allowed, Called, contacts_asked, event_of, event_by, Moment, Crossed, Asked, events_of, places, contacts_of, crossings_of, events_in}
use Rattle.std.proofs.lemmas.List.{append_assoc}
use Rattle.interface.specs.Mailboxes as mail
use Rattle.reset_law.specs.Boxes.{post_of}
use Rattle.reset_law.specs.Events.{Event, Out, Told, Down, Up, is_up, up_after_event}
use Rattle.reset_law.specs.Pairs.{MaySend}
use Rattle.reset_law.specs.Runs.{IsRun}
use Rattle.net_sim.specs.Timeline.{called_at}
use Rattle.net_sim.proofs.Resets.Bridge.{SameBoxes, box_step, contact_or, flow_of, place_by, places_same}
use Rattle.reset_law.specs.Network.{Network}

-- ---- the events of moments, without what is nothing to resets

abbrev called_events : List Called → List Event
called_events [] = []
called_events (x ∷ xs) = Contact x.host x.peer ∷ called_events xs

abbrev pub told_events : List Moment → List Event
told_events [] = []
told_events (Crossed c ∷ moments) = event_of c ∷ told_events moments
told_events (Asked h r ∷ moments) = called_events (contacts_asked h (places moments) r) ++ told_events moments

abbrev call : Host → ℕ → Host → Called
call h here peer = record { host = h; place = here; peer = peer }

by_asked : (P : Event → List Called → Type 0) (h : Host) (here : ℕ) (r : Request) → ((peer : Host) → P (Contact h peer) (call h here peer ∷ [])) → P Idle [] → P (event_by h r) (contacts_asked h here r)
by_asked P h here r contact idle = elim (contact_or h here r) [
  | inl c ↦ subst (λ (x : Request). P (event_by h x) (contacts_asked h here x)) (sym c.1) (contact c.0)
  | inr q ↦ subst (λ (e : Event). P e (contacts_asked h here r)) (sym q.0) (subst (λ (xs : List Called). P Idle xs) (sym q.1) idle)
]

place_more : (c : Crossing) (es fs : List Event) → place es ≡ place fs → place (event_of c ∷ es) ≡ place (event_of c ∷ fs)
place_more c es fs e = place_by c es ∙ ap (λ (n : ℕ). 1 + n) e ∙ sym (place_by c fs)

place_told : (moments : List Moment) → place (told_events moments) ≡ place (events_of moments)
place_told [] = refl
place_told (Crossed c ∷ moments) = place_more c (told_events moments) (events_of moments) (place_told moments)
place_told (Asked h r ∷ moments) = by_asked (λ e xs. place (called_events xs ++ told_events moments) ≡ place (e ∷ events_of moments)) h (places moments) r (λ peer. place_told moments) (place_told moments)

up_told : (hosts : List Host) (h : Host) (moments : List Moment) → is_up hosts h (told_events moments) ≡ is_up hosts h (events_of moments)
up_told hosts h [] = refl
up_told hosts h (Crossed c ∷ moments) = ap (λ (up : Bool). up_after_event h (event_of c) up) (up_told hosts h moments)
up_told hosts h (Asked g r ∷ moments) = by_asked (λ e xs. is_up hosts h (called_events xs ++ told_events moments) ≡ is_up hosts h (e ∷ events_of moments)) g (places moments) r (λ peer. up_told hosts h moments) (up_told hosts h moments)

pub pair_told : (a b : Host) (moments : List Moment) → pair a b (told_events moments) ≡ pair a b (events_of moments)
pair_told a b [] = refl
pair_told a b (Crossed c ∷ moments) = ap (λ (p : Pair). pair_moved (part_of a b (event_of c)) p) (pair_told a b moments)
pair_told a b (Asked h r ∷ moments) =
    by_asked (λ e xs. pair a b (called_events xs ++ told_events moments) ≡ pair a b (e ∷ events_of moments)) h (places moments) r
    (λ peer. ap (λ (p : Pair). pair_moved (part_of a b (Contact h peer)) p) (pair_told a b moments)) (pair_told a b moments)

boxes_told : (a b : Host) (moments : List Moment) → boxes a b (told_events moments) ≡ boxes a b (events_of moments)
boxes_told a b [] = refl
boxes_told a b (Crossed c ∷ moments) =
    ap (λ (n : ℕ). posted n (post_of a b (event_of c)) (boxes a b (told_events moments))) (place_told moments)
    ∙ ap (λ (bs : ℕ → Box). posted (place (events_of moments)) (post_of a b (event_of c)) bs) (boxes_told a b moments)
boxes_told a b (Asked h r ∷ moments) =
    by_asked (λ e xs. boxes a b (called_events xs ++ told_events moments) ≡ boxes a b (e ∷ events_of moments)) h (places moments) r (λ peer. boxes_told a b moments) (boxes_told a b moments)

needs_told : (hosts : List Host) (e : Event) (es fs : List Event) → ((h : Host) → is_up hosts h es ≡ is_up hosts h fs) → ((a b : Host) → boxes a b es ≡ boxes a b fs) → Needs hosts e fs → Needs hosts e es
needs_told hosts (Contact x y) es fs up bs n = tt
needs_told hosts (Out x y l m) es fs up bs n = (up x ∙ n.0, ap (λ (f : ℕ → Box). f l) (bs x y) ∙ n.1)
needs_told hosts (In x y l m) es fs up bs n = (up y ∙ n.0, subst (λ (f : ℕ → Box). WaitsWith (f l) m) (sym (bs x y)) n.1)
needs_told hosts (Told x y l k) es fs up bs n = (up x ∙ n.0, subst (λ (f : ℕ → Box). Fits k (f l)) (sym (bs x y)) n.1)
needs_told hosts (Down x) es fs up bs n = up x ∙ n
needs_told hosts (Up x) es fs up bs n = (n.0, up x ∙ n.1)
needs_told hosts Idle es fs up bs n = tt

allowed_told : (hosts : Network) (e : Event) (es fs : List Event) → ((h : Host) → is_up hosts.all h es ≡ is_up hosts.all h fs) → ((a b : Host) → pair a b es ≡ pair a b fs)
    → Allowed hosts e fs → Allowed hosts e es
allowed_told hosts (Out x y l m) es fs up ps n = λ ours. subst (λ (p : Pair). MaySend p l m) (sym (ps x y)) (n ours)
allowed_told hosts (Contact x y) es fs up ps n = λ off. up x ∙ n off
allowed_told hosts e es fs up ps n = tt

event_told : (hosts : Network) (e : Event) (moments : List Moment) → Needs hosts.all e (events_of moments) → Allowed hosts e (events_of moments) → IsRun hosts (told_events moments) → IsRun hosts (e ∷ told_events moments)
event_told hosts e moments n a r = (
  needs_told hosts.all e (told_events moments) (events_of moments) (λ h. up_told hosts.all h moments) (λ x y. boxes_told x y moments) n,
  allowed_told hosts e (told_events moments) (events_of moments) (λ h. up_told hosts.all h moments) (λ x y. pair_told x y moments) a,
  r,
)

pub run_told : (hosts : Network) (moments : List Moment) → IsRun hosts (events_of moments) → IsRun hosts (told_events moments)
run_told hosts [] r = tt
run_told hosts (Crossed c ∷ moments) r = event_told hosts (event_of c) moments r.0 r.1 (run_told hosts moments r.2)
run_told hosts (Asked h q ∷ moments) r =
    (by_asked (λ e xs. IsRun hosts (e ∷ events_of moments) → IsRun hosts (called_events xs ++ told_events moments)) h (places moments) q
    (λ peer k. event_told hosts (Contact h peer) moments k.0 k.1 (run_told hosts moments k.2)) (λ k. run_told hosts moments k.2)) r

-- ---- contacts by their places

abbrev AreBelow : ℕ → List Called → Type 0
AreBelow n [] = Unit {0}
AreBelow n (x ∷ xs) = (x.place < n) × AreBelow n xs

below_append : (n : ℕ) (xs ys : List Called) → AreBelow n xs → AreBelow n ys → AreBelow n (xs ++ ys)
below_append n [] ys h k = k
below_append n (x ∷ xs) ys h k = (h.0, below_append n xs ys h.1 k)

below_more : (m n : ℕ) (xs : List Called) → m ≤ n → AreBelow m xs → AreBelow n xs
below_more m n [] le h = tt
below_more m n (x ∷ xs) le h = (omega (arith, le, h.0), below_more m n xs le h.1)

below_of : (moments : List Moment) → AreBelow (1 + places moments) (contacts_of moments)
below_of [] = tt
below_of (Crossed c ∷ moments) = below_more (1 + places moments) (1 + (1 + places moments)) (contacts_of moments) (omega arith) (below_of moments)
below_of (Asked h r ∷ moments) =
    below_append (1 + places moments) (contacts_of moments) (contacts_asked h (places moments) r) (below_of moments)
    (by_asked (λ e xs. AreBelow (1 + places moments) xs) h (places moments) r (λ peer. (omega arith, tt)) tt)

apart_by : (n m : ℕ) → n < m → (b : Bool) → (n == m) ≡ b → b ≡ false
apart_by n m lt true e = absurd (let same : n ≡ m = eqb-true n m e in omega (arith, lt, same))
apart_by n m lt false e = refl

-- an earlier contact isn't asked for here
none_one : (n : ℕ) (x : Called) → x.place < n → called_at n (x ∷ []) ≡ []
none_one n x lt = let no : (x.place == n) ≡ false = apart_by x.place n lt (x.place == n) refl in rw no refl

none_at : (n : ℕ) (xs : List Called) → AreBelow n xs → called_at n xs ≡ []
none_at n [] h = refl
none_at n (x ∷ xs) h = ap (λ (es : List Event). es ++ (if x.place == n then Contact x.host x.peer ∷ [] else [])) (none_at n xs h.1) ∙ none_one n x h.0

called_append : (n : ℕ) (xs ys : List Called) → called_at n (xs ++ ys) ≡ called_at n ys ++ called_at n xs
called_append n [] ys = sym (append-nil (called_at n ys))
called_append n (x ∷ xs) ys =
    ap (λ (es : List Event). es ++ (if x.place == n then Contact x.host x.peer ∷ [] else [])) (called_append n xs ys)
    ∙ append_assoc (called_at n ys) (called_at n xs) (if x.place == n then Contact x.host x.peer ∷ [] else [])

-- a contact at another place isn't asked for here
other_one : (n : ℕ) (x : Called) → n < x.place → (b : Bool) → (x.place == n) ≡ b → (if b then Contact x.host x.peer ∷ [] else []) ≡ []
other_one n x lt true e = absurd (let same : x.place ≡ n = eqb-true x.place n e in omega (arith, lt, same))
other_one n x lt false e = refl

later_at : (n : ℕ) (xs : List Called) (x : Called) → n < x.place → called_at n (xs ++ x ∷ []) ≡ called_at n xs
later_at n xs x lt = called_append n xs (x ∷ []) ∙ ap (λ (es : List Event). es ++ called_at n xs) (other_one n x lt (x.place == n) refl)

later_in : (xs : List Called) (x : Called) (log : List Crossing) → length log < x.place → events_in (xs ++ x ∷ []) log ≡ events_in xs log
later_in xs x [] lt = later_at 0 xs x (omega (arith, lt))
later_in xs x (c ∷ log) lt =
    ap (λ (es : List Event). es ++ event_of c ∷ events_in (xs ++ x ∷ []) log) (later_at (length (c ∷ log)) xs x lt)
    ∙ ap (λ (es : List Event). called_at (length (c ∷ log)) xs ++ event_of c ∷ es) (later_in xs x log (omega (arith, lt)))

here_one : (n : ℕ) (x : Called) → x.place ≡ n → called_at n (x ∷ []) ≡ Contact x.host x.peer ∷ []
here_one n x is = let yes : (x.place == n) ≡ true = eq-eqb x.place n is in rw yes refl

here_at : (n : ℕ) (xs : List Called) (x : Called) → x.place ≡ n → called_at n (xs ++ x ∷ []) ≡ Contact x.host x.peer ∷ called_at n xs
here_at n xs x is = called_append n xs (x ∷ []) ∙ ap (λ (es : List Event). es ++ called_at n xs) (here_one n x is)

here_in : (xs : List Called) (x : Called) (log : List Crossing) → x.place ≡ length log → events_in (xs ++ x ∷ []) log ≡ Contact x.host x.peer ∷ events_in xs log
here_in xs x [] is = here_at 0 xs x is
here_in xs x (c ∷ log) is =
    ap (λ (es : List Event). es ++ event_of c ∷ events_in (xs ++ x ∷ []) log) (here_at (length (c ∷ log)) xs x is)
    ∙ ap (λ (es : List Event). Contact x.host x.peer ∷ called_at (length (c ∷ log)) xs ++ event_of c ∷ es) (later_in xs x log (omega (arith, is)))

-- the book of some moments
pub same_events : (moments : List Moment) → events_in (contacts_of moments) (crossings_of moments) ≡ told_events moments
same_events [] = refl
same_events (Crossed c ∷ moments) =
    let below : AreBelow (length (c ∷ crossings_of moments)) (contacts_of moments) =
    below_more (1 + places moments) (length (c ∷ crossings_of moments)) (contacts_of moments) (omega (arith, places_same moments)) (below_of moments) in
    ap (λ (es : List Event). es ++ event_of c ∷ events_in (contacts_of moments) (crossings_of moments)) (none_at (length (c ∷ crossings_of moments)) (contacts_of moments) below)
    ∙ ap (λ (es : List Event). event_of c ∷ es) (same_events moments)
same_events (Asked h r ∷ moments) =
    by_asked (λ e xs. events_in (contacts_of moments ++ xs) (crossings_of moments) ≡ called_events xs ++ told_events moments) h (places moments) r
    (λ peer. here_in (contacts_of moments) (call h (places moments) peer) (crossings_of moments) (places_same moments) ∙ ap (λ (es : List Event). Contact h peer ∷ es) (same_events moments))
    (ap (λ (xs : List Called). events_in xs (crossings_of moments)) (append-nil (contacts_of moments)) ∙ same_events moments)

-- ---- a book up to a place

run_under : (hosts : Network) (xs ys : List Event) → IsRun hosts (xs ++ ys) → IsRun hosts ys
run_under hosts [] ys r = r
run_under hosts (x ∷ xs) ys r = run_under hosts xs ys r.2

run_before : (hosts : Network) (contacts : List Called) (newer older : List Crossing) → IsRun hosts (events_in contacts (newer ++ older)) → IsRun hosts (events_in contacts older)
run_before hosts contacts [] older r = r
run_before hosts contacts (c ∷ newer) older r = run_before hosts contacts newer older (run_under hosts (called_at (length (c ∷ newer ++ older)) contacts) (event_of c ∷ events_in contacts (newer ++ older)) r).2

pub run_at : (hosts : Network) (contacts : List Called) (newer : List Crossing) (c : Crossing) (older : List Crossing) → IsRun hosts (events_in contacts (newer ++ c ∷ older)) → IsRun hosts (event_of c ∷ events_in contacts older)
run_at hosts contacts newer c older r = run_under hosts (called_at (length (c ∷ older)) contacts) (event_of c ∷ events_in contacts older) (run_before hosts contacts newer (c ∷ older) r)

-- contacts leave the boxes and the places
place_called : (n : ℕ) (xs : List Called) (es : List Event) → place (called_at n xs ++ es) ≡ place es
place_called n [] es = refl
place_called n (x ∷ xs) es = ap place (append_assoc (called_at n xs) (one (x.place == n)) es) ∙ place_called n xs (one (x.place == n) ++ es) ∙ by (x.place == n) where
  one : Bool → List Event
  one b = if b then Contact x.host x.peer ∷ [] else []

  by : (b : Bool) → place ((if b then Contact x.host x.peer ∷ [] else []) ++ es) ≡ place es
  by true = refl
  by false = refl

boxes_called : (a b : Host) (n : ℕ) (xs : List Called) (es : List Event) → boxes a b (called_at n xs ++ es) ≡ boxes a b es
boxes_called a b n [] es = refl
boxes_called a b n (x ∷ xs) es =
    ap (λ (fs : List Event). boxes a b fs) (append_assoc (called_at n xs) (if x.place == n then Contact x.host x.peer ∷ [] else []) es)
    ∙ boxes_called a b n xs ((if x.place == n then Contact x.host x.peer ∷ [] else []) ++ es) ∙ by (x.place == n) where
      by : (c : Bool) → boxes a b ((if c then Contact x.host x.peer ∷ [] else []) ++ es) ≡ boxes a b es
      by true = refl
      by false = refl

place_in : (contacts : List Called) (log : List Crossing) → place (events_in contacts log) ≡ length log
place_in contacts [] = by (append-nil (called_at 0 contacts)) where
  by : (called_at 0 contacts ++ []) ≡ called_at 0 contacts → place (called_at 0 contacts) ≡ length {A = Crossing} []
  by e = ap place (sym e) ∙ place_called 0 contacts []
place_in contacts (c ∷ log) = omega (arith, place_called (length (c ∷ log)) contacts (event_of c ∷ events_in contacts log), place_by c (events_in contacts log), place_in contacts log)

pub box_in : (a b : Host) (contacts : List Called) (log : List Crossing) → SameBoxes (boxes a b (events_in contacts log)) (λ k. mail.box_of (flow_of a b k) log)
box_in a b contacts [] k = ap (λ (es : List Event). boxes a b es k) (sym (append-nil (called_at 0 contacts))) ∙ ap (λ (bs : ℕ → Box). bs k) (boxes_called a b 0 contacts [])
box_in a b contacts (c ∷ log) k =
    ap (λ (bs : ℕ → Box). bs k) (boxes_called a b (length (c ∷ log)) contacts (event_of c ∷ events_in contacts log))
    ∙ box_step a b c (events_in contacts log) log (place_in contacts log) (box_in a b contacts log) k
