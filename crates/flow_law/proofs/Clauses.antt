-- What follows from the clauses, and that losing packets keeps them.
use Rattle.flow_law.proofs.Common.{◌≡◌, ◌≢◌, ℕ, ◌<◌, Bool, true, false, List, [], ◌∷◌, Option, Some, None, inl, inr, refl, ap, sym, ◌∙◌, subst, arith, Contains, cases_Bool, Contains-push_cases, Box, Fits, View, Packet, Queued, is_request, Invariant, Begun, Carried, Gone, Unnoted, Fated}
use Rattle.interface.specs.declared.crossing.Answer.TheVariants as answer
use Rattle.link_table.specs.Numbers.{modulus, next, is_new, Near}
use Rattle.link_table.proofs.lemmas.{near_next, near_old, near_same, next_in, not_next, two}
use Rattle.flow_law.specs.Moves.{New, CanBegin, queued_text, next_number}

fated_less : (v : View) (t s : Packet → Type 0) (number : ℕ) → ((x : Packet) → s x → t x) → Fated number v.to_up v.kept v.fate v.queue v.box t → Fated number v.to_up v.kept v.fate v.queue v.box s
fated_less v t s number less k = record {
  other = λ to another. (let u : Unnoted number v.queue v.box t = k.other to another in record { lost = u.lost; none = λ x sx. u.none x (less x sx) });
  same = k.same;
}

pub invariant_less : {Piece : List Bool → Packet → Type 0} (v : View) (t s : Packet → Type 0) → ((x : Packet) → s x → t x) → Invariant Piece v t → Invariant Piece v s
invariant_less v t s less h = record {
  range = h.range;
  begun = h.begun;
  sender = h.sender;
  home = h.home;
  away = h.away;
  window = λ up x sx. h.window up x (less x sx);
  expected = λ up x sx. h.expected up x (less x sx);
  carried = λ x sx. h.carried x (less x sx);
  orphaned = λ down x y sx new sy. h.orphaned down x y (less x sx) new (less y sy);
  waiting = h.waiting;
  taken = λ x sx. h.taken x (less x sx);
  dead = λ x sx kind awaited.
      (let g : Gone v.to_up v.kept v.queue v.box t = h.dead x (less x sx) kind awaited in
      record { waiting = g.waiting; unread = g.unread; none = λ y sy. g.none y (less y sy) });
  fated = λ number awaited. fated_less v t s number less (h.fated number awaited);
  busy = h.busy;
  settled = h.settled;
}

-- ---- nothing outstanding

-- nothing is new while nothing is outstanding
pub idle_new : {Piece : List Bool → Packet → Type 0} (v : View) (t : Packet → Type 0) → Invariant Piece v t → v.from_up ≡ true → v.outstanding ≡ None
    → (x : Packet) → t x → New v.to_up v.kept x → ⊥
idle_new v t h up idle x tx new =
    let awaited : v.outstanding ≡ Some x.number = h.expected up x tx new in
    absurd (cc)

-- and nothing is queued
pub idle_queue : {Piece : List Bool → Packet → Type 0} (v : View) (t : Packet → Type 0) → Invariant Piece v t → v.from_up ≡ true → v.outstanding ≡ None → v.queue ≡ []
idle_queue v t h up idle = elim h.waiting [
  | inl unread ↦ unread
  | inr held ↦ (let awaited : v.outstanding ≡ Some held.number = held.awaited up in absurd (cc))
]

-- ---- the box

taken_not_waiting : (box : Box) (place : ℕ) (text : List Bool) → Fits answer.Rfnm box → box ≡ Box.Waiting place text → ⊥
taken_not_waiting Box.Empty place text fits is = absurd fits
taken_not_waiting (Box.Waiting p t) place text fits is = absurd fits
taken_not_waiting (Box.Taken p t) place text fits is = absurd (cc)

pub dead_fits : (box : Box) (place : ℕ) (text : List Bool) → box ≡ Box.Waiting place text → Fits answer.Dead box
dead_fits box place text is = subst (λ (b : Box). Fits answer.Dead b) (sym is) tt

pub not_taken_fits : (box : Box) → Fits answer.Dead box → Fits answer.NotTaken box
not_taken_fits Box.Empty fits = absurd fits
not_taken_fits (Box.Waiting place text) fits = tt
not_taken_fits (Box.Taken place text) fits = absurd fits

-- nothing is new while the message was taken
pub shut_new : {Piece : List Bool → Packet → Type 0} (v : View) (t : Packet → Type 0) → Invariant Piece v t → Fits answer.Rfnm v.box → (x : Packet) → t x → New v.to_up v.kept x → ⊥
shut_new v t h fits x tx new = let c : Carried _ v.box v.queue x = h.carried x tx new in taken_not_waiting v.box c.place c.text fits c.waits

-- and nothing is queued
pub shut_queue : {Piece : List Bool → Packet → Type 0} (v : View) (t : Packet → Type 0) → Invariant Piece v t → Fits answer.Rfnm v.box → v.queue ≡ []
shut_queue v t h fits = elim h.waiting [
  | inl unread ↦ unread
  | inr held ↦ absurd (taken_not_waiting v.box held.place held.text fits held.waits)
]

-- ---- numbers

-- nothing is new against a number that it is near to
pub near_not_new : (up : Bool) (kept number : ℕ) (y : Packet) → kept ≡ number → Near number y.number → New up (Some kept) y → ⊥
near_not_new up kept number y same near new =
    let old : is_new _ y.number ≡ false = near_old number y.number near in
    let fresh : is_new _ y.number ≡ true = new.new in
    absurd (cc)

-- where new data was noted, nothing is new any more
pub noted : {Piece : List Bool → Packet → Type 0} (v : View) (t : Packet → Type 0) → Invariant Piece v t → (x : Packet) → t x → New v.to_up v.kept x
    → (y : Packet) → t y → New v.to_up (Some x.number) y → ⊥
noted v t h x tx new y ty again = elim (cases_Bool v.from_up) [
  | inl up ↦ (let w : Begun v.last y.number = h.window up y ty in
      let last : v.last ≡ Some x.number = h.begun x.number (h.expected up x tx new) in
      let same : x.number ≡ w.begun = (let at : v.last ≡ Some w.begun = w.is in cc) in
      near_not_new v.to_up x.number w.begun y same w.near again)
  | inr down ↦ near_not_new v.to_up x.number x.number y refl (h.orphaned down x y tx new ty again.request) again
]

-- the next number is a number
pub next_number_in : (last : Option ℕ) → next_number last < modulus
next_number_in None = omega (arith, two)
next_number_in (Some last) = next_in last

-- no packet carries the number that comes next
pub fresh : {Piece : List Bool → Packet → Type 0} (v : View) (t : Packet → Type 0) → Invariant Piece v t → v.from_up ≡ true → (x : Packet) → t x → x.number ≢ next_number v.last
fresh v t h up x tx same =
    let w : Begun v.last x.number = h.window up x tx in
    let at : x.number ≡ next w.begun = same ∙ ap next_number w.is in
    let N : ℕ → Type 0 = λ n. Near w.begun n in
    not_next w.begun (subst N at w.near)

-- where a number may be begun, whatever is alive stays within the window
pub still_near : {Piece : List Bool → Packet → Type 0} (v : View) (t : Packet → Type 0) → Invariant Piece v t → v.from_up ≡ true → CanBegin v t
    → (x : Packet) → t x → Near (next_number v.last) x.number
still_near v t h up can x tx =
    let w : Begun v.last x.number = h.window up x tx in
    let at : next_number v.last ≡ next w.begun = ap next_number w.is in
    let N : ℕ → Type 0 = λ n. Near n x.number in
    subst N (sym at) (near_next w.begun x.number w.near (can.free w.begun w.is x tx))

-- the outstanding number lies in its own window
pub begun_itself : {Piece : List Bool → Packet → Type 0} (v : View) (t : Packet → Type 0) → Invariant Piece v t → (number other : ℕ) → v.outstanding ≡ Some number → other ≡ number
    → Begun v.last other
begun_itself v t h number other awaited same =
    let last : v.last ≡ Some number = h.begun number awaited in
    let N : ℕ → Type 0 = λ n. Near number n in
    record { begun = number; is = last; near = subst N (sym same) (near_same number (h.range number last)) }

-- two requests of one number are new together
pub new_too : (up : Bool) (kept : Option ℕ) (x y : Packet) → New up kept x → is_request y.kind ≡ true → y.number ≡ x.number → New up kept y
new_too up kept x y new kind same = record {
  up = new.up;
  request = kind;
  new = ap (λ (n : ℕ). is_new kept n) same ∙ new.new;
}

-- ---- queues

pub only_one : {X : Type 0} (x y : X) → Contains (x ∷ []) y → x ≡ y
only_one x y there = elim (Contains-push_cases [] x y there) [
  | inl none ↦ absurd (omega (arith, none.1))
  | inr same ↦ same
]

pub one_there : {X : Type 0} (xs : List X) (x : X) → xs ≡ x ∷ [] → Contains xs x
one_there {X} xs x one = let C : List X → Type 0 = λ l. Contains l x in subst C (sym one) (0, omega arith, refl)

pub none_in : {X : Type 0} (xs : List X) (x : X) → xs ≡ [] → Contains xs x → ⊥
none_in {X} xs x none there =
    let C : List X → Type 0 = λ l. Contains l x in
    let here : Contains [] x = subst C none there in
    absurd (omega (arith, here.1))

-- the message of a queue of one
pub number_of : (queue : List Queued) (number : ℕ) (text : List Bool) (q : Queued) → queue ≡ queued_text number text ∷ [] → Contains queue q → q.number ≡ number
number_of queue number text q one there =
    let C : List Queued → Type 0 = λ l. Contains l q in
    ap (λ (m : Queued). m.number) (sym (only_one _ q (subst C one there)))
