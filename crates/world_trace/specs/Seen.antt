-- When the lines of a long calm are handed on: as its rounds pass.
use Rattle.std.specs.Prelude.{◌≡◌, ℕ, suc, Bool, true, List, Option}
use Rattle.interface.specs.Calls.{Calls}
use Rattle.net_sim.specs.Rest.{IsAtRest}
use Rattle.net_sim.specs.World.{WorldState}
use Rattle.replay.specs.InTurn.{Happening}
use Rattle.replay.specs.Seen.{AreSeen, HandsOn, SeenAfter}
use Rattle.topology.specs.Topology.{TopologyFields}
use Rattle.trace.specs.Traces.{WritesTrace, numbered_from}
use Rattle.trace.specs.declared.all_parts.AllParts.{AllParts}
use Rattle.trace.specs.declared.element.Spot.{Spot}
use Rattle.world_replay.specs.Kinds.{rounds_in}
use Rattle.world_script.specs.declared.event.WorldEvent.{WorldEvent}
use Rattle.world_trace.specs.MixedTraces.{AtSpot, TellsMixedAt, mixed_opening}
use Rattle.world_trace.specs.Texts.{opening_text}
use Rattle.world_trace.specs.Traces.{TellsAt, TellsRound, state_of}

-- a round passes between two states of a world and of the writer of its trace, after however many
abbrev pub RoundTells : {C W : Type 0} → Calls C → (C → AllParts) → (W → Option (List ℕ)) → Spot → ℕ
    → WorldState C × W → WorldState C × W → Type 0
RoundTells calls members contents spot passed old new =
    WritesTrace (TellsRound calls members spot old.0 (suc passed) new.0) (contents old.1) (contents new.1)

-- an event that has this many rounds, if it is a calm: after each round of a long one the writer has handed on all that
-- was written, whether or not the round has lines
abbrev pub CalmHandsOn : {C W : Type 0} → Calls C → (C → AllParts) → (W → Option (List ℕ)) → (W → Bool) → Spot
    → Option ℕ → WorldState C × W → WorldState C × W → Type 0
CalmHandsOn calls members contents flushed spot rounds old new =
    HandsOn (RoundTells calls members contents spot) (λ at. flushed at.1 ≡ true) (λ at. IsAtRest calls at.0) rounds old new

-- events are traced one after the other, and so handed on, in what has a world
abbrev pub EventsAreSeen : {C S W : Type 0} → Calls C → (C → AllParts) → (S → WorldState C)
    → (Spot → Happening S WorldEvent (List ℕ)) → (W → Option (List ℕ)) → (W → Bool) → List (ℕ × WorldEvent) → S × W → S × W → Type 0
EventsAreSeen calls members state Tells contents flushed events old new =
    AreSeen (AtSpot Tells) (λ line. line) contents
    (λ at e next. CalmHandsOn calls members contents flushed e.0 (rounds_in e.1) (state at.0, at.1) (state next.0, next.1)) old
    (numbered_from 1 events) new

-- after the first line, in a world, and in one with strangers
abbrev pub WorldIsSeen : {C W : Type 0} → Calls C → (C → AllParts) → (W → Option (List ℕ)) → (W → Bool)
    → TopologyFields → List (ℕ × WorldEvent) → WorldState C × W → WorldState C × W → Type 0
WorldIsSeen calls members contents flushed t events old new =
    SeenAfter (opening_text t (state_of members old.0)) contents
    (EventsAreSeen calls members (λ w. w) (TellsAt calls members) contents flushed events) old new

abbrev pub MixedIsSeen : {C W : Type 0} → Calls C → (C → AllParts) → (W → Option (List ℕ)) → (W → Bool)
    → TopologyFields → List (ℕ × WorldEvent) → WorldState C × W → WorldState C × W → Type 0
MixedIsSeen calls members contents flushed t events old new =
    SeenAfter (mixed_opening members t old.0) contents
    (EventsAreSeen calls members (λ w. w) (TellsMixedAt calls members) contents flushed events) old new
