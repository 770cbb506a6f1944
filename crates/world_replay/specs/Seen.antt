-- When what a long calm prints is handed on: as its rounds pass.
use Rattle.std.specs.Prelude.{◌≡◌, ℕ, Bool, true, List, Option}
use Rattle.replay.specs.Seen.{AreSeen, HandsOn}
use Rattle.replay.specs.declared.print.Detail.{Detail}
use Rattle.world_replay.specs.Kinds.{HappensBy, Kind, rounds_in}
use Rattle.world_replay.specs.Output.{Writes, shown_text}
use Rattle.world_script.specs.declared.event.WorldEvent.{WorldEvent}
use Rattle.world_script.specs.declared.event.WorldEvent.TheVariants.{Calm}

-- a round passes between two states of a world and of the writer to which its replay prints, after however many
abbrev pub RoundPrints : {S W : Type 0} → Kind S → Detail → (W → Option (List ℕ)) → ℕ → (S × W) → (S × W) → Type 0
RoundPrints kind detail contents passed old new =
    Writes detail (HappensBy kind old.0 (Calm 1) new.0) (contents old.1) (contents new.1)

-- an event that has this many rounds, if it is a calm: after each round the writer has handed on all that was printed
abbrev pub CalmHandsOn : {S W : Type 0} → Kind S → Detail → (W → Option (List ℕ)) → (W → Bool) → Option ℕ
    → (S × W) → (S × W) → Type 0
CalmHandsOn kind detail contents flushed rounds old new =
    HandsOn (RoundPrints kind detail contents) (λ at. flushed at.1 ≡ true) (λ at. kind.rests at.0) rounds old new

-- events happen one after the other, what each shows is printed, and of a long calm it is handed on round by round
abbrev pub AreSeenBy : {S W : Type 0} → Kind S → Detail → (W → Option (List ℕ)) → (W → Bool) → (S × W) → List WorldEvent
    → (S × W) → Type 0
AreSeenBy kind detail contents flushed old events new =
    AreSeen (HappensBy kind) (shown_text detail) contents
    (λ old e new. CalmHandsOn kind detail contents flushed (rounds_in e) old new) old events new
