-- What is traced of a calm of plain mailboxes says all of it: no round of theirs is still.
use Rattle.trace.proofs.Common.{◌≡◌, ◌&&◌, ◌+◌, ℕ, zero, suc, Bool, true, false, List, [], ◌∷◌, ◌++◌, length, Option, Some, None, Ok, is_some, arith, refl, sym, ap, subst, Host, Crossing, Shown, shown_crossings, Happens, Replays, RawEvent, Element, Spot, Course, all_takings, events_of, from_boxes, is_given, round_of, taking, takings, then_course, IsStill, SaysAll, TellsEvent, plain_inside}
use Rattle.std.proofs.lemmas.List.{length-append}
use Rattle.interface.specs.declared.Inbound.{Inbound}
use Rattle.leader1822.specs.Boxes.{Boxes, inbound_taken, next_for, plain_calls}
use Rattle.trace.proofs.Calms.{goes_round, taken_log, traced}
use Rattle.trace.proofs.Courses.{none_given, one_given}
use Rattle.trace.proofs.Going.{Goes}
use Rattle.trace.proofs.Rounds.Numbered.{all_takings_in}
use Rattle.trace.proofs.Rounds.Settled.{plain_settled}
use Rattle.trace.proofs.Rounds.Whole.{AreRounds, says_all}

-- ---- each taking has its crossing

-- one crossing for each elementary event
abbrev Grows : Boxes → Course Boxes → Type 0
Grows b c = length c.left.log ≡ length c.elements + length b.log

given_log : (b : Boxes) (h : Host) → is_given b h ≡ true
    → length (inbound_taken b h (next_for b h)).log ≡ suc (length b.log)
given_log b h given = by (next_for b h) (some _ _ given) where
  some : (up there : Bool) → (up && there) ≡ true → there ≡ true
  some true there e = e
  some false there e = absurd (cc)

  by : (o : Option Inbound) → is_some o ≡ true → length (inbound_taken b h o).log ≡ suc (length b.log)
  by None none = absurd (cc)
  by (Some i) there = ap (λ (log : List Crossing). length log) (taken_log b h i)

then_grows : (b : Boxes) (first : Course Boxes) (next : Boxes → Course Boxes) → Grows b first
    → Grows first.left (next first.left) → Grows b (then_course first next)
then_grows b first next h k =
    let sum : length (first.elements ++ (next first.left).elements) ≡ length first.elements + length
    (next first.left).elements = length-append first.elements (next first.left).elements in
    omega (arith, h, k, sum)

takings_grow : (round : ℕ) (h : Host) (times : ℕ) (b : Boxes) → Grows b (takings from_boxes round h times b)
takings_grow round h zero b = omega arith
takings_grow round h (suc times) b = by (λ c. takings_grow round h times c) (is_given b h) refl where
  by : ((c : Boxes) → Grows c (takings from_boxes round h times c)) → (given : Bool) → is_given b h ≡ given
      → Grows b (takings from_boxes round h (suc times) b)
  by more true e =
      subst (λ (c : Course Boxes). Grows b c) (sym (one_given from_boxes round h times b e))
      (then_grows b (taking from_boxes round h b) (takings from_boxes round h times)
      (let one = given_log b h e in omega (arith, one)) (more (inbound_taken b h (next_for b h))))
  by more false e = subst (λ (c : Course Boxes). Grows b c) (sym (none_given from_boxes round h times b e))
      (omega arith)

all_grow : (round : ℕ) (hosts : List Host) (b : Boxes) → Grows b (all_takings from_boxes round hosts b)
all_grow round [] b = omega arith
all_grow round (h ∷ hosts) b =
    let first : Course Boxes = takings from_boxes round h 16 b in
    then_grows b first (all_takings from_boxes round hosts) (takings_grow round h 16 b)
    (all_grow round hosts first.left)

-- ---- so a still round has no elementary event

none_of : (xs : List Element) → length xs ≡ 0 → xs ≡ []
none_of [] none = refl
none_of (x ∷ xs) none = absurd (omega (arith, none))

stays : (round : ℕ) (old new : Boxes) → Goes traced old (round_of round old) (Ok tt) new
    → IsStill plain_calls plain_inside old new → new ≡ old
stays round old new goes still =
    let course : Course Boxes = round_of round old in
    let grew : length course.left.log ≡ length course.elements + length old.log = all_grow round _ old in
    let here : length new.log ≡ length course.left.log = ap (λ (b : Boxes). length b.log) goes.left in
    let same : length new.log ≡ length old.log = ap (λ (log : List Crossing). length log) still.log in
    let none : course.elements ≡ [] = none_of _ (omega (arith, grew, here, same)) in
    (subst (λ (xs : List Element). Replays plain_calls old (events_of xs) new (shown_crossings goes.run.crossings)) none
    goes.run.replays).0

plain_rounds : AreRounds traced plain_inside round_of
plain_rounds = record {
  go = goes_round;
  settled = plain_settled;
  numbered = λ round b. all_takings_in from_boxes round b.hosts b;
  stays = λ round old new holds goes still. stays round old new goes still;
  calm = λ b rounds. refl;
}

pub told : (old new other : Boxes) (spot : Spot) (e : RawEvent) (lines : List (List ℕ)) (shown : List Shown)
    → TellsEvent plain_calls plain_inside old (spot, e) new lines → Happens plain_calls old e other shown
    → SaysAll plain_calls plain_inside spot old new lines other shown
told old new other spot e lines shown t k =
    says_all traced plain_inside round_of plain_rounds spot old new other e lines shown tt t k
