-- What is written as the trace of a world, over any carrier whose inside can be traced.
use Rattle.std.specs.Prelude.{◌≡◌, ◌⊎◌, ℕ, zero, suc, List, [], ◌∷◌, ◌++◌, Option, map}
use Rattle.net_sim.specs.World.{WorldState}
use Rattle.net_sim.specs.declared.event.Event.{Event}
use Rattle.interface.specs.Calls.{Calls}
use Rattle.replay.specs.InTurn.{EndsInTurn, Happening, InTurn}
use Rattle.topology.specs.Topology.{TopologyFields}
use Rattle.trace.specs.Changes.{changed, changed_parts, members_of}
use Rattle.trace.specs.Traces.{WritesTrace, numbered_from}
use Rattle.trace.specs.declared.element.Spot.{Spot}
use Rattle.trace.specs.declared.all_parts.AllParts.{AllParts}
use Rattle.world_replay.specs.Output.{Shown}
use Rattle.world_replay.specs.Replay.{Happens, HappensInCalm, MayStep}
use Rattle.world_replay.specs.Rounds.{EndsRound, RoundOf}
use Rattle.world_script.specs.declared.event.WorldEvent.{WorldEvent}
use Rattle.world_script.specs.declared.event.WorldEvent.TheVariants as world
use Rattle.world_trace.specs.Texts.{opening_text, seat_member, services_member, state_members, world_line}

-- the state of a world, where a carrier shows these parts
abbrev pub state_of : {C : Type 0} → (C → AllParts) → WorldState C → List (List ℕ)
state_of members w = state_members (members_of (members w.carrier)) (map seat_member w.seats) (map services_member w.services)

-- what of a state is other than before: the parts of the carrier, the programs and the services whose texts are
abbrev pub change_of : {C : Type 0} → (C → AllParts) → WorldState C → WorldState C → List (List ℕ)
change_of members old new = state_members (changed_parts (members old.carrier) (members new.carrier)) (changed (map seat_member old.seats) (map seat_member new.seats)) (changed (map services_member old.services) (map services_member new.services))

-- an event that is no calm happens as in a replay and has one line, with what of the state is other than before
abbrev pub TellsOne : {C : Type 0} → Calls C → (C → AllParts) → Spot → ℕ → Happening (WorldState C) WorldEvent (List ℕ)
TellsOne calls members spot round old e new lines =
    (shown : List Shown) × (h : Happens calls old e new shown) × (lines ≡ world_line spot round e h.gains.crossings shown (change_of members old new) ∷ [])

-- nothing of a state is other than before
pub record IsUnchanged {C : Type 0} (members : C → AllParts) (old new : WorldState C) : Type 0 where
  pub parts : changed_parts (members old.carrier) (members new.carrier) ≡ []
  pub programs : changed (map seat_member old.seats) (map seat_member new.seats) ≡ []
  pub services : changed (map services_member old.services) (map services_member new.services) ≡ []

-- ---- a calm

-- an event of a calm happens, in the round of this number, and has such a line. No refusal is in it
abbrev pub TellsStep : {C : Type 0} → Calls C → (C → AllParts) → Spot → ℕ → Happening (WorldState C) Event (List ℕ)
TellsStep calls members spot round old e new lines =
    (shown : List Shown) × (h : HappensInCalm calls old e new shown) × (lines ≡ world_line spot round (world.Happen e) h.gains.crossings shown (change_of members old new) ∷ [])

-- it prints nothing and after it nothing is other than before. It has no line
abbrev pub IsSilent : {C : Type 0} → Calls C → (C → AllParts) → Happening (WorldState C) Event (List ℕ)
IsSilent calls members old e new lines = HappensInCalm calls old e new [] × IsUnchanged members old new × (lines ≡ [])

-- any other has one
abbrev pub IsHeard : {C : Type 0} → Calls C → (C → AllParts) → Spot → ℕ → Happening (WorldState C) Event (List ℕ)
IsHeard calls members spot round old e new lines =
    (told : TellsStep calls members spot round old e new lines) × (told.0 ≡ [] → IsUnchanged members old new → ⊥)

abbrev pub TellsInCalm : {C : Type 0} → Calls C → (C → AllParts) → Spot → ℕ → Happening (WorldState C) Event (List ℕ)
TellsInCalm calls members spot round old e new lines = IsSilent calls members old e new lines ⊎ IsHeard calls members spot round old e new lines

-- a round of a calm, by its number: the quiet round of the network, and then the takings and the offers of each host that is up
abbrev pub TellsRound : {C : Type 0} → Calls C → (C → AllParts) → Spot → Happening (WorldState C) ℕ (List ℕ)
TellsRound calls members spot old round new lines = RoundOf (TellsInCalm calls members spot round) old new lines

-- the numbers of this many rounds, counted from 1
abbrev pub first_rounds : ℕ → List ℕ
first_rounds zero = []
first_rounds (suc rounds) = first_rounds rounds ++ suc rounds ∷ []

-- a calm is its rounds, and any other event has one line
abbrev pub TellsAt : {C : Type 0} → Calls C → (C → AllParts) → Spot → Happening (WorldState C) WorldEvent (List ℕ)
TellsAt calls members spot old (world.Happen e) new lines = TellsOne calls members spot 0 old (world.Happen e) new lines
TellsAt calls members spot old (world.Calm rounds) new lines = InTurn (TellsRound calls members spot) old (first_rounds rounds) new lines

-- an event with where it is
abbrev pub TellsIn : {C : Type 0} → Calls C → (C → AllParts) → Happening (WorldState C) (Spot × WorldEvent) (List ℕ)
TellsIn calls members old e new lines = TellsAt calls members e.0 old e.1 new lines

-- the lines are those of these events, numbered from 1, each of which comes after the number of its line in a script
abbrev pub TracesWorld : {C : Type 0} → Calls C → (C → AllParts) → WorldState C → List (ℕ × WorldEvent) → WorldState C → List (List ℕ) → Type 0
TracesWorld calls members old events new lines = InTurn (TellsIn calls members) old (numbered_from 1 events) new lines

-- the lines after the first, which is the network with the state at the opening
abbrev pub AfterOpening : {C : Type 0} → (C → AllParts) → TopologyFields → WorldState C → (List (List ℕ) → Type 0) → List (List ℕ) → Type 0
AfterOpening members t opening AreLines lines = (others : List (List ℕ)) × (lines ≡ opening_text t (state_of members opening) ∷ others) × AreLines others

-- ---- a trace that ends early, in an event of the script or of a calm

-- the world processed it, whatever came of it, and it has no line
abbrev pub MayTell : {C : Type 0} → Calls C → Happening (WorldState C) Event (List ℕ)
MayTell calls old e new lines = (lines ≡ []) × MayStep calls old e new

-- memory ran out before it happened, in it, or for its line
abbrev pub StopsOne : {C : Type 0} → Calls C → Happening (WorldState C) Event (List ℕ)
StopsOne calls old e new lines = ((lines ≡ []) × (new ≡ old)) ⊎ MayTell calls old e new lines

-- the events of a calm before one had their lines, and that one went as is said. So did an event that is no calm
abbrev pub EndsAt : {C : Type 0} → Calls C → (C → AllParts) → Happening (WorldState C) Event (List ℕ) → Spot → Happening (WorldState C) WorldEvent (List ℕ)
EndsAt calls members Goes spot old (world.Happen e) new lines = Goes old e new lines
EndsAt calls members Goes spot old (world.Calm rounds) new lines =
    EndsInTurn (TellsRound calls members spot) (λ old round new lines. EndsRound (TellsInCalm calls members spot round) Goes old new lines) old (first_rounds rounds) new lines

abbrev pub EndsIn : {C : Type 0} → Calls C → (C → AllParts) → Happening (WorldState C) Event (List ℕ) → Happening (WorldState C) (Spot × WorldEvent) (List ℕ)
EndsIn calls members Goes old e new lines = EndsAt calls members Goes e.0 old e.1 new lines

abbrev pub WorldTraceEnds : {C : Type 0} → Calls C → (C → AllParts) → Happening (WorldState C) Event (List ℕ) → WorldState C → List (ℕ × WorldEvent) → WorldState C → List (List ℕ) → Type 0
WorldTraceEnds calls members Goes old events new lines =
    EndsInTurn (TellsIn calls members) (EndsIn calls members Goes) old (numbered_from 1 events) new lines

-- a write failed for the line of one of them
abbrev pub WorldTraceFails : {C : Type 0} → Calls C → (C → AllParts) → WorldState C → List (ℕ × WorldEvent) → WorldState C → Type 0
WorldTraceFails calls members old events new = (others : List (List ℕ)) × WorldTraceEnds calls members (MayTell calls) old events new others

-- ---- writing

-- the network with the state at the opening is written, and then the lines of these events
abbrev pub WritesWorld : {C : Type 0} → Calls C → (C → AllParts) → TopologyFields → WorldState C → List (ℕ × WorldEvent) → WorldState C → Option (List ℕ) → Option (List ℕ) → Type 0
WritesWorld calls members t old events new before after = WritesTrace (AfterOpening members t old (TracesWorld calls members old events new)) before after

-- memory ran out in one of the events, or for its line: those before it have theirs
abbrev pub WritesStopped : {C : Type 0} → Calls C → (C → AllParts) → WorldState C → List (ℕ × WorldEvent) → WorldState C → Option (List ℕ) → Option (List ℕ) → Type 0
WritesStopped calls members old events new before after = WritesTrace (WorldTraceEnds calls members (StopsOne calls) old events new) before after

-- after the network with the state at the opening
abbrev pub WritesPart : {C : Type 0} → Calls C → (C → AllParts) → TopologyFields → WorldState C → List (ℕ × WorldEvent) → WorldState C → Option (List ℕ) → Option (List ℕ) → Type 0
WritesPart calls members t old events new before after = WritesTrace (AfterOpening members t old (WorldTraceEnds calls members (StopsOne calls) old events new)) before after
