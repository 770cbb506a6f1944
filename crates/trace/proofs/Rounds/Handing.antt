-- A long calm is handed on round by round.
use Rattle.trace.proofs.Common.{◌≡◌, inl, inr, ℕ, ◌<◌, ◌≤◌, ◌+◌, Bool, true, List, [], ◌∷◌, ◌++◌, length, Option, Ok, Err, arith, refl, sym, ap, subst, ◌∙◌, Calls, RawEvent, by_round, elements_in, EndsRound, Inside, IsStill, MayTell, TellsElement, TellsEvent, TellsMoving, TellsRound, WritesTrace, numbered_from, AllParts, Element, Spot}
use Rattle.std.proofs.lemmas.Bool.{cases_lt}
use Rattle.std.proofs.lemmas.List.{append_assoc, append-nil, length-append}
use Rattle.replay.proofs.lemmas.{Each, appends_none, ends_last, one_round_seen, one_written, seen_written}
use Rattle.replay.specs.Replay.{BeginsWith, IsOneCall}
use Rattle.replay.specs.Seen.{IsSeen, RoundsPass}
use Rattle.replay.specs.declared.events.ReplayFault.TheVariants as fault
use Rattle.script.specs.declared.event.RawEvent.TheVariants as event
use Rattle.trace.specs.Seen.{EventHandsOn, EventsAreSeen, RoundsHandOn, RoundTells}
use Rattle.trace.specs.Steps.{IsAsBegun, RoundEnds}
use Rattle.trace.proofs.Rounds.Listed.{Begins, round_begun}
use Rattle.trace.proofs.Rounds.Told.{has_moved, one_element}
use Rattle.trace.proofs.Telling.{SoFar, all_told, one_more}

-- of these rounds the first ones passed, none of them was still, and each after the 64th was seen; this many are
-- counted, or at least 64
pub record Passing {C W : Type 0} (calls : Calls C) (inside : Inside C) (spot : Spot) (contents : W → Option (List ℕ))
    (flushed : W → Bool) (all left : List (List Element)) (passed : ℕ) (old now : C × W) : Type 0 where
  pub so_far : SoFar (TellsMoving calls inside spot) old.0 all left now.0 (contents old.1) (contents now.1)
  pub count : passed < 64 → passed ≡ length so_far.done
  pub rounds : RoundsPass (RoundTells calls inside spot contents all) (λ at. flushed at.1 ≡ true) (length so_far.done) old
      now

late : (passed n : ℕ) → (passed < 64 → passed ≡ n) → 64 ≤ n → 64 ≤ passed
late passed n count many = elim (cases_lt passed 64) [
  | inl few ↦ (let same : passed ≡ n = count few in omega (arith, same, many))
  | inr more ↦ more
]

module _ {C P W : Type 0} (calls : Calls C) (inside : Inside C) (left : C → P → List Element) (spot : Spot)
    (contents : W → Option (List ℕ)) (flushed : W → Bool) where
  pub none_passing : (all : List (List Element)) (old : C × W) → Passing calls inside spot contents flushed all all 0 old old
  none_passing all old = record {
    so_far = record { done = []; parts = refl; written = record { shown = []; is_shown = (refl, refl); written = appends_none (contents old.1) } };
    count = λ few. refl;
    rounds = refl;
  }

  -- one round more, whether it is still or not
  next_seen : (all : List (List Element)) (passed : ℕ) (old mid new : C × W) (place next : P)
      (h : Passing calls inside spot contents flushed all (by_round (left mid.0 place)) passed old mid)
      → RoundEnds calls inside left spot mid.0 place (Ok next) new.0 (contents mid.1) (contents new.1)
      → (64 ≤ passed → flushed new.1 ≡ true)
      → RoundsPass (RoundTells calls inside spot contents all) (λ at. flushed at.1 ≡ true) (length h.so_far.done + 1) old new
  next_seen all passed old mid new place next h (round, is, written) seen =
      let done : List (List Element) = h.so_far.done in
      one_round_seen _ _ _ old mid new h.rounds
      (done, round, by_round (left new.0 next), h.so_far.parts ∙ ap (λ es. done ++ es) is, refl, written)
      (λ many. seen (late passed _ h.count many))

  pub one_passing : (all : List (List Element)) (passed more : ℕ) (old mid new : C × W) (place next : P) (parts : AllParts)
      (booked : ℕ) → Passing calls inside spot contents flushed all (by_round (left mid.0 place)) passed old mid
      → RoundEnds calls inside left spot mid.0 place (Ok next) new.0 (contents mid.1) (contents new.1)
      → (64 ≤ passed → flushed new.1 ≡ true) → (more < 64 → more ≡ passed + 1)
      → IsAsBegun calls inside mid.0 parts booked → (IsAsBegun calls inside new.0 parts booked → ⊥)
      → Passing calls inside spot contents flushed all (by_round (left new.0 next)) more old new
  one_passing all passed more old mid new place next parts booked h k seen counted begun moved =
      let (round, is, written) = k in
      let done : List (List Element) = h.so_far.done in
      let long : length (done ++ round ∷ []) ≡ length done + 1 = length-append done (round ∷ []) in
      record {
        so_far = record {
          done = done ++ round ∷ [];
          parts = h.so_far.parts ∙ ap (λ es. done ++ es) is ∙ sym (append_assoc done (round ∷ []) (by_round (left new.0 next)));
          written = one_written (TellsMoving calls inside spot) (λ line. line) old.0 mid.0 new.0 done round _
              (contents mid.1) (contents new.1) h.so_far.written
              (record { shown = written.shown; is_shown = (written.is_shown, has_moved calls inside mid.0 new.0 parts booked begun moved); written = written.written });
        };
        count = λ few. (
            let now : more ≡ passed + 1 = counted few in
            let same : passed ≡ length done = h.count (omega (arith, few, now)) in
            omega (arith, now, same, long));
        rounds = subst (λ n. RoundsPass (RoundTells calls inside spot contents all) (λ at. flushed at.1 ≡ true) n old new) (sym long)
            (next_seen all passed old mid new place next h k seen);
      }

  -- the still one is the last
  pub still_seen : (all : List (List Element)) (passed : ℕ) (old mid new : C × W) (place next : P)
      → Passing calls inside spot contents flushed all (by_round (left mid.0 place)) passed old mid
      → (k : RoundEnds calls inside left spot mid.0 place (Ok next) new.0 (contents mid.1) (contents new.1))
      → (64 ≤ passed → flushed new.1 ≡ true) → IsStill calls inside mid.0 new.0
      → RoundsHandOn calls inside contents flushed spot all old new
  still_seen all passed old mid new place next h k seen still = λ long. (
      let (round, is, written) = k in
      let done : List (List Element) = h.so_far.done in
      let sum : length (done ++ by_round (left mid.0 place)) ≡ length done + length (by_round (left mid.0 place)) =
      length-append done (by_round (left mid.0 place)) in
      let whole : length all ≡ length (done ++ by_round (left mid.0 place)) = ap length h.so_far.parts in
      let more : length (by_round (left mid.0 place)) ≡ length (round ∷ by_round (left new.0 next)) = ap length is in (
        length done + 1,
        omega (arith, sum, whole, more),
        next_seen all passed old mid new place next h k seen,
        inr (mid.0, round, written.shown, (written.is_shown, still)),
      ))

  -- and so are all, where none was still
  pub all_seen : (all rest : List (List Element)) (passed : ℕ) (old now : C × W) → rest ≡ []
      → Passing calls inside spot contents flushed all rest passed old now
      → RoundsHandOn calls inside contents flushed spot all old now
  all_seen all rest passed old now none h = λ long. (
      let whole : length all ≡ length h.so_far.done =
      ap length (h.so_far.parts ∙ ap (λ es. h.so_far.done ++ es) none ∙ append-nil h.so_far.done) in (
        length h.so_far.done,
        omega (arith, whole),
        h.rounds,
        inl (sym whole),
      ))

-- an event of one call is no long calm
pub one_call_seen : {C W : Type 0} (calls : Calls C) (inside : Inside C) (contents : W → Option (List ℕ)) (flushed : W → Bool)
    (spot : Spot) (e : RawEvent) (old new : C × W) → IsOneCall e
    → EventHandsOn calls inside contents flushed old (spot, e) new
one_call_seen calls inside contents flushed spot e old new one = λ long. (
    let is : length (by_round (elements_in (inside.calm old.0) e)) ≡ 1 =
    ap (λ xs. length (by_round xs)) (one_element _ e one) in
    absurd (omega (arith, is, long)))

-- ---- a round after which it couldn't be handed on: its last elementary event had already happened

begins_all : (e : RawEvent) → BeginsWith e e
begins_all (event.Out m) = refl
begins_all (event.Take h) = refl
begins_all (event.Net e) = refl
begins_all (event.Calm rounds) = (rounds, refl, omega arith)

may_tell : {C : Type 0} (calls : Calls C) (inside : Inside C) (spot : Spot) (old new : C) (x : Element)
    (own : List (List ℕ)) → Unit {0} → TellsElement calls inside spot old x new own
    → (others : List (List ℕ)) × MayTell calls old x new others
may_tell calls inside spot old new x own any (shown, goes, is) = (
  [],
  (record { processed = x.event; begins = begins_all _; outcome = goes.outcome; gives = goes.gives; unknown = refl }, refl),
)

any_element : (xs : List Element) → Each (λ x. Unit {0}) xs
any_element [] = tt
any_element (x ∷ xs) = (tt, any_element xs)

-- a list of elementary events, round by round, has none that is empty
some_in : (xs round : List Element) (later : List (List Element)) → by_round xs ≡ round ∷ later
    → (x : Element) × (more : List Element) × (round ≡ x ∷ more)
some_in [] round later is = absurd (cc)
some_in (x ∷ xs) round later is =
    let begun : Begins (by_round (x ∷ xs)) [] x = round_begun _ [] x xs tt refl in
    let same : round ∷ later ≡ (x ∷ begun.more) ∷ begun.later = sym is ∙ begun.is in
    (x, begun.more, cc)

pub unhanded : {C P : Type 0} (calls : Calls C) (inside : Inside C) (left : C → P → List Element) (spot : Spot)
    (old new : C) (place next : P) (a b c : Option (List ℕ)) → RoundEnds calls inside left spot old place (Ok next) new a b
    → RoundEnds calls inside left spot old place (Err fault.CannotWrite) new a c
unhanded calls inside left spot old new place next a b c (round, is, written) =
    let (x, more, same) = some_in (left old place) round _ is in
    let (others, ends) = ends_last _ _ _
    (may_tell calls inside spot) old new x more (any_element (x ∷ more)) _
    (subst (λ (es : List Element). TellsRound calls inside spot old es new written.shown) same written.is_shown) in (
      round,
      by_round (left new next),
      is,
      others,
      subst (λ (es : List Element). EndsRound calls inside (MayTell calls) spot old es new others) (sym same) ends,
    )

-- ---- the events of a script

-- the first ones are traced and handed on
abbrev pub SeenSoFar : {C W : Type 0} → Calls C → Inside C → (W → Option (List ℕ)) → (W → Bool) → C × W
    → List (Spot × RawEvent) → List (Spot × RawEvent) → C × W → Type 0
SeenSoFar calls inside contents flushed old all left now =
    SoFar (IsSeen (TellsEvent calls inside) (λ line. line) contents (EventHandsOn calls inside contents flushed)) old all left
    now (contents old.1) (contents now.1)

pub event_seen : {C W : Type 0} (calls : Calls C) (inside : Inside C) (contents : W → Option (List ℕ)) (flushed : W → Bool)
    (old mid new : C × W) (all left later : List (Spot × RawEvent)) (e : Spot × RawEvent) → left ≡ e ∷ later
    → SeenSoFar calls inside contents flushed old all left mid
    → WritesTrace (TellsEvent calls inside mid.0 e new.0) (contents mid.1) (contents new.1)
    → EventHandsOn calls inside contents flushed mid e new → SeenSoFar calls inside contents flushed old all later new
event_seen calls inside contents flushed old mid new all left later e is h goes handed =
    one_more _ old mid new
    all left later e _ _ _ is h
    (seen_written _ _ contents _ mid e new goes handed)

pub events_seen : {C W : Type 0} (calls : Calls C) (inside : Inside C) (contents : W → Option (List ℕ)) (flushed : W → Bool)
    (old new : C × W) (events : List (ℕ × RawEvent)) (left : List (Spot × RawEvent)) → left ≡ []
    → SeenSoFar calls inside contents flushed old (numbered_from 1 events) left new
    → EventsAreSeen calls inside contents flushed events old new
events_seen calls inside contents flushed old new events left none h =
    let w = all_told _ old
    new _ left _ _ none h in
    (w.shown, w.is_shown)
