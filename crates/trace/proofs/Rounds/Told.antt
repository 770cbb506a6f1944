-- A calm is traced round by round.
use Rattle.trace.proofs.Common.{◌≡◌, ◌⊎◌, inl, inr, ℕ, ◌<◌, Bool, List, [], ◌∷◌, ◌++◌, length, Option, Some, Result, Ok, Err, false, true, arith, refl, reverse, sym, ap, subst, ◌∙◌, suc, Calls, Crossing, appends_none, last_shown, last_written, one_written, IsOneCall, RawEvent, Element, Spot, begins_in, by_round, elements_in, EndsRound, GoesOnWith, Inside, IsStill, MayTell, StopsElement, TellsElement, TellsMoving, TellsRound, TellsRounds, WritesTrace, AllParts}
use Rattle.std.proofs.lemmas.Bool.{eq-eqb, eqb-true}
use Rattle.std.proofs.lemmas.List.{append_assoc, append-nil}
use Rattle.replay.specs.InTurn.{EndsInTurn, Happening, InTurn}
use Rattle.replay.specs.declared.events.ReplayFault.{ReplayFault}
use Rattle.replay.specs.declared.events.ReplayFault.TheVariants as fault
use Rattle.script.specs.declared.event.RawEvent.TheVariants as event
use Rattle.trace.specs.Steps.{ElementEnds, EndsAs, EventEnds, IsAsBegun, RoundEnds}
use Rattle.trace.proofs.Rounds.Listed.{AllIn, Begins, one_more_in, round_begun, round_over}
use Rattle.trace.proofs.Changes.Deciding.{parts_or_not}
use Rattle.trace.proofs.Rounds.Same.{as_long, grew_or_not}
use Rattle.trace.proofs.Telling.{SoFar, all_told, ends_told, fails_told}

-- ---- a round that is still, or is not

-- the log grew by what crossed in the round
pub round_grown : {C : Type 0} (calls : Calls C) (inside : Inside C) (spot : Spot) (old new : C) (round : List Element)
    (lines : List (List ℕ)) → TellsRound calls inside spot old round new lines
    → (more : List Crossing) × ((calls.seen new).log ≡ more ++ (calls.seen old).log)
round_grown calls inside spot old new [] lines h = ([], ap (λ c. (calls.seen c).log) h.0)
round_grown calls inside spot old new (x ∷ round) lines (mid, first, rest, (shown, happens, is), later, all) =
    let (more, grown) = round_grown calls inside spot mid new round rest later in (
      more ++ reverse happens.crossings,
      grown ∙ ap (λ log. more ++ log) happens.grown
          ∙ sym (append_assoc more (reverse happens.crossings) (calls.seen old).log),
    )

pub still_or_moving : {C : Type 0} (calls : Calls C) (inside : Inside C) (spot : Spot) (old new : C)
    (round : List Element) (lines : List (List ℕ)) → TellsRound calls inside spot old round new lines
    → IsStill calls inside old new ⊎ (IsStill calls inside old new → ⊥)
still_or_moving calls inside spot old new round lines h =
    let (more, grown) = round_grown calls inside spot old new round lines h in
    by (parts_or_not _ _)
    (grew_or_not more _ _ grown)
  where
    by : (inside.members new ≡ inside.members old) ⊎ (inside.members new ≡ inside.members old → ⊥)
        → ((calls.seen new).log ≡ (calls.seen old).log) ⊎ ((calls.seen new).log ≡ (calls.seen old).log → ⊥)
        → IsStill calls inside old new ⊎ (IsStill calls inside old new → ⊥)
    by (inl parts) (inl log) = inl (record { parts = parts; log = log })
    by (inl parts) (inr apart) = inr (λ still. apart still.log)
    by (inr apart) log = inr (λ still. apart still.parts)

-- as it is found where it is over
pub is_still : {C : Type 0} (calls : Calls C) (inside : Inside C) (spot : Spot) (old new : C) (round : List Element)
    (lines : List (List ℕ)) (parts : AllParts) (booked : ℕ) → TellsRound calls inside spot old round new lines
    → IsAsBegun calls inside old parts booked → IsAsBegun calls inside new parts booked → IsStill calls inside old new
is_still calls inside spot old new round lines parts booked h begun now =
    let (more, grown) = round_grown calls inside spot old new round lines h in
    record {
      parts = now.0 ∙ sym begun.0;
      log =
          as_long more _ _ grown (now.1 ∙ sym begun.1);
    }

pub has_moved : {C : Type 0} (calls : Calls C) (inside : Inside C) (old new : C) (parts : AllParts) (booked : ℕ)
    → IsAsBegun calls inside old parts booked → (IsAsBegun calls inside new parts booked → ⊥)
    → IsStill calls inside old new → ⊥
has_moved calls inside old new parts booked begun moved still =
    moved (still.parts ∙ begun.0, ap (λ (log : List Crossing). length log) still.log ∙ begun.1)

-- ---- in a round

-- of the round that begins at this place: these elementary events happened, and their lines are written
pub record InRound {C P : Type 0} (calls : Calls C) (inside : Inside C) (left : C → P → List Element) (spot : Spot)
    (round : ℕ) (old : C) (begin : P) (now : C) (place : P) (before after : Option (List ℕ)) : Type 0 where
  pub done : List Element
  pub all : AllIn round done
  pub parts : left old begin ≡ done ++ left now place
  pub written : WritesTrace (TellsRound calls inside spot old done now) before after

-- one more
pub round_more : {C P : Type 0} (calls : Calls C) (inside : Inside C) (left : C → P → List Element) (spot : Spot)
    (round : ℕ) (old mid new : C) (begin place next : P) (x : Element) (a b c : Option (List ℕ))
    → GoesOnWith calls left mid place (Some (x, next)) → x.round ≡ round
    → InRound calls inside left spot round old begin mid place a b
    → WritesTrace (TellsElement calls inside spot mid x new) b c
    → InRound calls inside left spot round old begin new next a c
round_more calls inside left spot round old mid new begin place next x a b c (later, one, is, after) same h k = record {
  done = h.done ++ x ∷ [];
  all = one_more_in round h.done x h.all same;
  parts =
      h.parts ∙ ap (λ (xs : List Element). h.done ++ xs)
      (is ∙ ap (λ (xs : List Element). x ∷ xs) (sym (after new _ k.is_shown.1)))
      ∙ sym (append_assoc h.done (x ∷ []) (left new next));
  written = one_written (TellsElement calls inside spot) (λ line. line) old mid new h.done x a b c h.written k;
}

-- each has one more after it
pub round_shorter : {C P : Type 0} (calls : Calls C) (inside : Inside C) (left : C → P → List Element) (spot : Spot)
    (mid new : C) (place next : P) (x : Element) (b c : Option (List ℕ))
    → GoesOnWith calls left mid place (Some (x, next)) → WritesTrace (TellsElement calls inside spot mid x new) b c
    → length (left new next) < length (left mid place)
round_shorter calls inside left spot mid new place next x b c (later, one, is, after) k =
    let here : length (left mid place) ≡ suc (length later) = ap length is in
    let there : length (left new next) ≡ length later = ap length (after new _ k.is_shown.1) in
    omega (arith, here, there)

-- it is over where nothing is left, or an elementary event of another round
pub round_ends : {C P : Type 0} (calls : Calls C) (inside : Inside C) (left : C → P → List Element) (spot : Spot)
    (round : ℕ) (old new : C) (begin place : P) (a b : Option (List ℕ))
    → begins_in round (left old begin) ≡ true → begins_in round (left new place) ≡ false
    → InRound calls inside left spot round old begin new place a b
    → RoundEnds calls inside left spot old begin (Ok place) new a b
round_ends calls inside left spot round old new begin place a b begins over h =
    (h.done, round_over round _ h.done _ h.parts h.all begins over, h.written)

pub over_here : {C P : Type 0} (calls : Calls C) (left : C → P → List Element) (round : ℕ) (new : C) (place next : P)
    (x : Element) → GoesOnWith calls left new place (Some (x, next)) → (x.round ≡ round → ⊥)
    → begins_in round (left new place) ≡ false
over_here calls left round new place next x (later, one, is, after) other = ap (begins_in round) is
    ∙ by (begins_in round (x ∷ later)) refl where
      by : (b : Bool) → begins_in round (x ∷ later) ≡ b → begins_in round (x ∷ later) ≡ false
      by true e = absurd (other (eqb-true x.round round e))
      by false e = e

-- one fault, of either answer
abbrev pub IsFault : {P Q : Type 0} → Result P ReplayFault → Result Q ReplayFault → Type 0
IsFault (Ok p) q = ⊥
IsFault (Err f) (Ok q) = ⊥
IsFault (Err f) (Err g) = f ≡ g

pub is_fault : {P Q : Type 0} (q : Result P ReplayFault) (r : Result Q ReplayFault) (f : ReplayFault) → q ≡ Err f
    → r ≡ Err f → IsFault q r
is_fault {P} {Q} q r f one other = subst (λ (q : Result P ReplayFault). IsFault q r) (sym one)
    (subst (λ (r : Result Q ReplayFault). IsFault {P = P} {Q = Q} (Err f) r) (sym other) refl)

apart : fault.OutOfMemory ≡ fault.CannotWrite → ⊥
apart e = absurd (cc)

-- it ends early where one of its elementary events does
pub round_early : {C P : Type 0} (calls : Calls C) (inside : Inside C) (left : C → P → List Element) (spot : Spot)
    (round : ℕ) (old mid new : C) (begin place next : P) (x : Element) (r : Result (Unit {0}) ReplayFault)
    (q : Result P ReplayFault) (a b c : Option (List ℕ))
    → GoesOnWith calls left mid place (Some (x, next)) → x.round ≡ round
    → InRound calls inside left spot round old begin mid place a b → ElementEnds calls inside spot mid x r new b c
    → IsFault r q
    → RoundEnds calls inside left spot old begin q new a c
round_early {C} {P} calls inside left spot round old mid new begin place next x r q a b c
    (later, one, is, after) same h k faults = by r q k faults where
      front : List Element
      front = h.done

      parts : left old begin ≡ front ++ x ∷ later
      parts = h.parts ∙ ap (λ (xs : List Element). front ++ xs) is

      begun : Begins (by_round (front ++ x ∷ later)) front x
      begun = round_begun round front x later h.all same

      rounds : by_round (left old begin) ≡ (front ++ x ∷ begun.more) ∷ begun.later
      rounds = ap by_round parts ∙ begun.is

      by : (r : Result (Unit {0}) ReplayFault) (q : Result P ReplayFault)
          → ElementEnds calls inside spot mid x r new b c
          → IsFault r q → RoundEnds calls inside left spot old begin q new a c
      by (Ok done) q k same = absurd same
      by (Err fault.OutOfMemory) (Ok p) k same = absurd same
      by (Err fault.OutOfMemory) (Err fault.OutOfMemory) k same = (
        front ++ x ∷ begun.more,
        begun.later,
        rounds,
        last_written _ _ _ old mid new
            _ front x _ a b c refl h.written k,
      )
      by (Err fault.OutOfMemory) (Err fault.CannotWrite) k same = absurd (apart same)
      by (Err fault.CannotWrite) (Ok p) k same = absurd same
      by (Err fault.CannotWrite) (Err fault.OutOfMemory) k same = absurd (apart (sym same))
      by (Err fault.CannotWrite) (Err fault.CannotWrite) k same = (
        front ++ x ∷ begun.more,
        begun.later,
        rounds,
        h.written.shown ++ k.0,
        last_shown _ _ old mid new
            _ front x _ _ k.0 refl h.written.is_shown k.1,
      )

-- ---- rounds

-- the still one is the last
pub rounds_end : {C P : Type 0} (calls : Calls C) (inside : Inside C) (left : C → P → List Element) (spot : Spot)
    (old mid new : C) (place next : P) (all : List (List Element)) (a b c : Option (List ℕ))
    → SoFar (TellsMoving calls inside spot) old all (by_round (left mid place)) mid a b
    → RoundEnds calls inside left spot mid place (Ok next) new b c → IsStill calls inside mid new
    → WritesTrace (TellsRounds calls inside spot old all new) a c
rounds_end calls inside left spot old mid new place next all a b c h (round, is, written) still =
    let k = ends_told _ _ old mid new all
    _ _ round a b c is h
    (record { shown = written.shown; is_shown = (written.is_shown, still); written = written.written }) in
    record { shown = k.shown; is_shown = inr k.is_shown; written = k.written }

-- as it is found where a round is over
pub still_told : {C P : Type 0} (calls : Calls C) (inside : Inside C) (left : C → P → List Element) (spot : Spot)
    (old mid new : C) (place next : P) (all : List (List Element)) (parts : AllParts) (booked : ℕ)
    (a b c : Option (List ℕ))
    → SoFar (TellsMoving calls inside spot) old all (by_round (left mid place)) mid a b
    → RoundEnds calls inside left spot mid place (Ok next) new b c → IsAsBegun calls inside mid parts booked
    → IsAsBegun calls inside new parts booked
    → WritesTrace (TellsRounds calls inside spot old all new) a c
still_told calls inside left spot old mid new place next all parts booked a b c h k begun now =
    rounds_end calls inside left spot old mid new place next all a b c h k
    (is_still calls inside spot mid new k.0 _ parts booked k.2.is_shown begun now)

-- ---- where rounds end early

-- a round in which memory ran out before its first elementary event
pub round_stops : {C P : Type 0} (calls : Calls C) (inside : Inside C) (left : C → P → List Element) (spot : Spot)
    (mid : C) (place next : P) (x : Element) (a : Option (List ℕ)) → GoesOnWith calls left mid place (Some (x, next))
    → RoundEnds calls inside left spot mid place (Err fault.OutOfMemory) mid a a
round_stops calls inside left spot mid place next x a (later, one, is, after) =
    let begun : Begins (by_round (x ∷ later)) [] x = round_begun _ [] x later tt refl in (
      x ∷ begun.more,
      begun.later,
      ap by_round is ∙ begun.is,
      last_written _ _ _ mid mid mid
          _ [] x _ a a a refl
          (record { shown = []; is_shown = (refl, refl); written = appends_none a })
          (record { shown = []; is_shown = inl (refl, refl); written = appends_none a }),
    )

-- the rounds before one happened, and that one went as is said
abbrev Early : {C : Type 0} → Calls C → Inside C → Happening C Element (List ℕ) → Spot
    → Happening C (List (List Element)) (List ℕ)
Early calls inside Goes spot old rounds new lines =
    EndsInTurn (TellsMoving calls inside spot) (EndsRound calls inside Goes spot) old rounds new lines

abbrev RoundsEnd : {C : Type 0} → Calls C → Inside C → Spot → C → List (List Element) → Result (Unit {0}) ReplayFault
    → C → Option (List ℕ) → Option (List ℕ) → Type 0
RoundsEnd calls inside spot old rounds r new before after =
    EndsAs (TellsRounds calls inside spot) (Early calls inside (StopsElement calls) spot)
    (Early calls inside (MayTell calls) spot) old rounds r new before after

-- the rounds of an event end as the event does
pub event_ends : {C : Type 0} (calls : Calls C) (inside : Inside C) (old new : C) (e : Spot × RawEvent)
    (r : Result (Unit {0}) ReplayFault) (a c : Option (List ℕ))
    → RoundsEnd calls inside e.0 old (by_round (elements_in (inside.calm old) e.1)) r new a c
    → EventEnds calls inside old e r new a c
event_ends calls inside old new e (Ok done) a c h = h
event_ends calls inside old new e (Err fault.OutOfMemory) a c h = h
event_ends calls inside old new e (Err fault.CannotWrite) a c h = h

-- a calm ends early where one of its rounds does
pub rounds_early : {C P : Type 0} (calls : Calls C) (inside : Inside C) (left : C → P → List Element) (spot : Spot)
    (rounds : ℕ) (old mid new : C) (place : P) (q : Result P ReplayFault) (r : Result (Unit {0}) ReplayFault)
    (a b c : Option (List ℕ))
    → SoFar (TellsMoving calls inside spot) old (by_round (inside.calm old rounds)) (by_round (left mid place)) mid a b
    → RoundEnds calls inside left spot mid place q new b c → IsFault q r
    → EventEnds calls inside old (spot, event.Calm rounds) r new a c
rounds_early {C} {P} calls inside left spot rounds old mid new place q r a b c h k faults =
    event_ends calls inside old new (spot, event.Calm rounds) r a c (by q r k faults) where
      all : List (List Element)
      all = by_round (inside.calm old rounds)

      by : (q : Result P ReplayFault) (r : Result (Unit {0}) ReplayFault)
          → RoundEnds calls inside left spot mid place q new b c → IsFault q r
          → RoundsEnd calls inside spot old all r new a c
      by (Ok p) r k same = absurd same
      by (Err fault.OutOfMemory) (Ok done) k same = absurd same
      by (Err fault.OutOfMemory) (Err fault.OutOfMemory) (round, later, is, written) same =
          ends_told (TellsMoving calls inside spot) (EndsRound calls inside (StopsElement calls) spot) old mid new all
          (by_round (left mid place)) later round a b c is h written
      by (Err fault.OutOfMemory) (Err fault.CannotWrite) k same = absurd (apart same)
      by (Err fault.CannotWrite) (Ok done) k same = absurd same
      by (Err fault.CannotWrite) (Err fault.OutOfMemory) k same = absurd (apart (sym same))
      by (Err fault.CannotWrite) (Err fault.CannotWrite) (round, later, is, lines, goes) same =
          fails_told (TellsMoving calls inside spot) (EndsRound calls inside (MayTell calls) spot) old mid new all
          (by_round (left mid place)) later round a b is h (lines, goes)

-- ---- an event of one call

-- is one elementary event
pub one_element : (calm : ℕ → List Element) (e : RawEvent) → IsOneCall e
    → elements_in calm e ≡ record { round = 0; event = e } ∷ []
one_element calm (event.Out m) one = refl
one_element calm (event.Take h) one = refl
one_element calm (event.Net e) one = refl
one_element calm (event.Calm rounds) one = absurd one

-- of one round
one_round : {C : Type 0} (calls : Calls C) (inside : Inside C) (spot : Spot) (old new : C) (round : List Element)
    (lines : List (List ℕ)) → TellsRound calls inside spot old round new lines
    → TellsRounds calls inside spot old (round ∷ []) new lines
one_round calls inside spot old new round lines h = by (still_or_moving calls inside spot old new round lines h) where
  by : IsStill calls inside old new ⊎ (IsStill calls inside old new → ⊥)
      → TellsRounds calls inside spot old (round ∷ []) new lines
  by (inl still) = inr (last_shown _ _ old old new
      _ [] round [] [] lines refl (refl, refl) (h, still))
  by (inr moved) = inl (new, lines, [], (h, moved), (refl, refl), sym (append-nil lines))

none_written : {S E : Type 0} (Happens : Happening S E (List ℕ)) (old : S) (a : Option (List ℕ))
    → WritesTrace (InTurn Happens old [] old) a a
none_written Happens old a = record { shown = []; is_shown = (refl, refl); written = appends_none a }

one_ends_so : {C : Type 0} (calls : Calls C) (inside : Inside C) (spot : Spot) (old new : C) (x : Element)
    (r : Result (Unit {0}) ReplayFault) (a c : Option (List ℕ)) → ElementEnds calls inside spot old x r new a c
    → RoundsEnd calls inside spot old ((x ∷ []) ∷ []) r new a c
one_ends_so calls inside spot old new x (Ok done) a c k =
    let round = one_written (TellsElement calls inside spot) (λ line. line) old old new [] x a a c
    (none_written (TellsElement calls inside spot) old a) k in
    record {
      shown = round.shown;
      is_shown =
          one_round calls inside spot old new _ _ round.is_shown;
      written = round.written;
    }
one_ends_so calls inside spot old new x (Err fault.OutOfMemory) a c k =
    last_written _ _
    _ old old new _ [] _ [] a a c refl
    (none_written (TellsMoving calls inside spot) old a)
    (last_written _ _ _ old old new
    _ [] x [] a a c refl (none_written (TellsElement calls inside spot) old a) k)
one_ends_so calls inside spot old new x (Err fault.CannotWrite) a c (lines, goes) = (
  lines,
  last_shown _ _ old old new
      _ [] _ [] [] lines refl (refl, refl)
      (last_shown _ _ old old new _ [] x [] [] lines refl
      (refl, refl) goes),
)

pub one_ends : {C : Type 0} (calls : Calls C) (inside : Inside C) (old new : C) (spot : Spot) (e : RawEvent)
    (x : Element) (r : Result (Unit {0}) ReplayFault) (a c : Option (List ℕ))
    → elements_in (inside.calm old) e ≡ x ∷ [] → ElementEnds calls inside spot old x r new a c
    → EventEnds calls inside old (spot, e) r new a c
one_ends calls inside old new spot e x r a c is h =
    event_ends calls inside old new _ r a c
    (subst (λ (xs : List Element). RoundsEnd calls inside spot old (by_round xs) r new a c) (sym is)
    (one_ends_so calls inside spot old new x r a c h))
