-- A long calm is handed on round by round.
use Rattle.world_trace.proofs.Common.{Calls, WorldState, up_in, Event, Host, flat_map, WritesTrace, numbered_from, Spot, RoundEnds, MayTell, TellsInCalm, TellsRound, AllParts, WorldEvent, MatchBool, IsSeen, RoundsPass, AtSpot}
use Rattle.std.proofs.Common.{◌≡◌, inl, inr, refl, ℕ, zero, suc, ◌+◌, ◌<◌, ◌≤◌, Bool, true, false, List, [], ◌∷◌, ◌++◌, Option, Ok, Err, arith, sym, subst, add-one}
use Rattle.replay.specs.InTurn.{Happening}
use Rattle.world_replay.specs.Rounds.{Again, Repeated, crosses, EndsAgain, EndsRepeated, turn_of}
use Rattle.replay.proofs.lemmas.{Each, ends_last, one_round_seen, seen_written}
use Rattle.replay.specs.declared.events.ReplayFault.TheVariants as fault
use Rattle.world_replay.specs.Kinds.{rounds_in}
use Rattle.world_trace.specs.Seen.{CalmHandsOn, EventsAreSeen, RoundTells}
use Rattle.world_trace.proofs.Telling.{SoFar, all_done, one_more}

-- one round more, which is seen if it has to be
pub round_seen : {C W : Type 0} (calls : Calls C) (members : C → AllParts) (contents : W → Option (List ℕ))
    (flushed : W → Bool) (spot : Spot) (passed : ℕ) (old mid new : WorldState C × W)
    → RoundsPass (RoundTells calls members contents spot) (λ at. flushed at.1 ≡ true) passed old mid
    → WritesTrace (TellsRound calls members spot mid.0 (passed + 1) new.0) (contents mid.1) (contents new.1)
    → (64 ≤ passed → flushed new.1 ≡ true)
    → RoundsPass (RoundTells calls members contents spot) (λ at. flushed at.1 ≡ true) (passed + 1) old new
round_seen calls members contents flushed spot passed old mid new before tells seen =
    one_round_seen (RoundTells calls members contents spot) (λ at. flushed at.1 ≡ true) passed old mid new before
    (subst (λ n. WritesTrace (TellsRound calls members spot mid.0 n new.0) (contents mid.1) (contents new.1)) (add-one passed) tells)
    seen

-- ---- a round after which it couldn't be handed on: its last event had already happened

module _ {C : Type 0} (calls : Calls C) (members : C → AllParts) (spot : Spot) (round : ℕ) where
  abbrev Tells : WorldState C → Event → WorldState C → List (List ℕ) → Type 0
  Tells = TellsInCalm calls members spot round

  may_tell : (old new : WorldState C) (e : Event) (lines : List (List ℕ)) → Tells old e new lines → MayTell calls old e new []
  may_tell old new e lines (inl (happens, same, none)) = (refl, (happens.outcome, happens.gives))
  may_tell old new e lines (inr ((shown, happens, is), heard)) = (refl, (happens.outcome, happens.gives))

  last_time : (e : Event) (times : ℕ) (old new : WorldState C) (lines : List (List ℕ)) → 0 < times
      → Repeated Tells e times old new lines
      → (others : List (List ℕ)) × EndsRepeated Tells (MayTell calls) e times old new others
  last_time e zero old new lines some h = absurd (omega (arith, some))
  last_time e (suc times) old new lines some (mid, first, rest, goes, more, all) =
      by (crosses old mid) times (λ few again. last_time e times mid new rest few again) refl more
    where
      here : (n : ℕ) → new ≡ mid → (others : List (List ℕ)) × EndsRepeated Tells (MayTell calls) e (suc n) old new others
      here n same = ([], inl (subst (λ (w : WorldState C). MayTell calls old e w []) (sym same) (may_tell old mid e first goes)))

      by : (b : Bool) (n : ℕ) → (0 < n → Repeated Tells e n mid new rest
          → (others : List (List ℕ)) × EndsRepeated Tells (MayTell calls) e n mid new others)
          → crosses old mid ≡ b → MatchBool b (Repeated Tells e n mid new rest) ((new ≡ mid) × (rest ≡ []))
          → (others : List (List ℕ)) × EndsRepeated Tells (MayTell calls) e (suc n) old new others
      by false n later is (same, none) = here n same
      by true zero later is (same, none) = here zero same
      by true (suc n) later is again =
          let (others, ends) = later (omega arith) again in
          (first ++ others, inr (mid, first, others, goes, is, ends, refl))

  each_turn : (hosts : List Host) → Each (λ (e : Event × ℕ). 0 < e.1) (flat_map turn_of hosts)
  each_turn [] = tt
  each_turn (h ∷ hosts) = (omega arith, (omega arith, each_turn hosts))

  pub unhanded : (old new : WorldState C) (a b c : Option (List ℕ)) → RoundEnds calls members spot old round (Ok tt) new a b
      → RoundEnds calls members spot old round (Err fault.CannotWrite) new a c
  unhanded old new a b c told =
      ends_last (Again Tells) (EndsAgain Tells (MayTell calls)) (λ (e : Event × ℕ). 0 < e.1)
      (λ from to e lines some goes. last_time e.0 e.1 from to lines some goes) old new _ _
      (omega arith, each_turn (up_in old.seats)) told.shown told.is_shown

-- ---- the events of a script

module _ {C S W : Type 0} (calls : Calls C) (members : C → AllParts) (state : S → WorldState C)
    (Tells : Spot → Happening S WorldEvent (List ℕ)) (contents : W → Option (List ℕ)) (flushed : W → Bool) where
  abbrev pub Handed : S × W → Spot × WorldEvent → S × W → Type 0
  Handed at e next = CalmHandsOn calls members contents flushed e.0 (rounds_in e.1) (state at.0, at.1) (state next.0, next.1)

  -- the first ones are traced and handed on
  abbrev pub SeenSoFar : S × W → List (Spot × WorldEvent) → List (Spot × WorldEvent) → S × W → Type 0
  SeenSoFar old all left now =
      SoFar (IsSeen (AtSpot Tells) (λ line. line) contents Handed) old all left now (contents old.1) (contents now.1)

  pub event_seen : (old mid new : S × W) (all left later : List (Spot × WorldEvent)) (e : Spot × WorldEvent) → left ≡ e ∷ later
      → SeenSoFar old all left mid → WritesTrace (Tells e.0 mid.0 e.1 new.0) (contents mid.1) (contents new.1)
      → Handed mid e new → SeenSoFar old all later new
  event_seen old mid new all left later e is h goes handed =
      one_more (IsSeen (AtSpot Tells) (λ line. line) contents Handed) old mid new all left later e (contents old.1)
      (contents mid.1) (contents new.1) is h (seen_written (AtSpot Tells) (λ line. line) contents Handed mid e new goes handed)

  pub events_seen : (old new : S × W) (events : List (ℕ × WorldEvent)) (left : List (Spot × WorldEvent)) → left ≡ []
      → SeenSoFar old (numbered_from 1 events) left new
      → EventsAreSeen calls members state Tells contents flushed events old new
  events_seen old new events left none h =
      let w = all_done (IsSeen (AtSpot Tells) (λ line. line) contents Handed) old new (numbered_from 1 events) left
      (contents old.1) (contents new.1) none h in
      (w.shown, w.is_shown)
