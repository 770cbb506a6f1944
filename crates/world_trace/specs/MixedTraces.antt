-- What is written as the trace of a world some of whose hosts are strangers. Its state has the hosts with programs, and its first line says
-- who the strangers are.
use Rattle.std.specs.Prelude.{◌≡◌, ◌⊎◌, ℕ, List, [], ◌∷◌, ◌++◌, Option, Result, codes, map}
use Rattle.interface.specs.Calls.{Calls}
use Rattle.interface.specs.Host.{Host}
use Rattle.interface.specs.Printed.{host_text}
use Rattle.net_sim.specs.Steps.{StepGives}
use Rattle.net_sim.specs.World.{WorldState}
use Rattle.net_sim.specs.declared.event.Event.{Event}
use Rattle.net_sim.specs.declared.event.WorldFault.{WorldFault}
use Rattle.replay.specs.InTurn.{EndsInTurn, Happening, InTurn}
use Rattle.replay.specs.declared.print.Detail.TheVariants.{Sizes}
use Rattle.topology.specs.Topology.{TopologyFields}
use Rattle.trace.specs.Texts.{array, member, quoted}
use Rattle.trace.specs.Traces.{WritesTrace, numbered_from}
use Rattle.trace.specs.declared.all_parts.AllParts.{AllParts}
use Rattle.trace.specs.declared.element.Spot.{Spot}
use Rattle.world_replay.specs.Output.{Shown, output}
use Rattle.world_replay.specs.Replay.{Happens}
use Rattle.world_script.specs.declared.event.WorldEvent.{WorldEvent}
use Rattle.world_script.specs.declared.event.WorldEvent.TheVariants as world
use Rattle.world_trace.specs.Texts.{event_text, line_of, opening_text}
use Rattle.world_trace.specs.Traces.{EndsAt, MayTell, StopsOne, TellsAt, change_of, state_of}

-- ---- texts

-- the strangers, as a member of the first line
abbrev pub stranger_text : Host → List ℕ
stranger_text h = quoted (host_text h)

abbrev pub foreign_member : List Host → List ℕ
foreign_member strangers = member (codes "foreign") (array (map stranger_text strangers))

-- the first line: as without strangers, and then who they are
abbrev pub mixed_opening : {C : Type 0} → (C → AllParts) → TopologyFields → WorldState C → List ℕ
mixed_opening members t s = opening_text t (state_of members s ++ foreign_member s.strangers ∷ [])

-- ---- events

-- an event that is no calm happens as in a replay and has one line, with what of the state is other than before
abbrev pub TellsMixed : {C : Type 0} → Calls C → (C → AllParts) → Spot → Happening (WorldState C) Event (List ℕ)
TellsMixed calls members spot old e new lines =
    (shown : List Shown) × (h : Happens calls old (world.Happen e) new shown)
    × (lines ≡ line_of spot 0 (event_text (world.Happen e)) h.gains.crossings (output Sizes shown)
    (change_of members old new) ∷ [])

-- it is processed, whatever comes of it, and has no line
abbrev pub MayTellMixed : {C : Type 0} → Calls C → Happening (WorldState C) Event (List ℕ)
MayTellMixed calls old e new lines =
    (lines ≡ []) × ((outcome : Result (Unit {0}) WorldFault) × StepGives calls old e outcome new)

-- memory ran out before it happened, in it, or for its line
abbrev pub StopsMixed : {C : Type 0} → Calls C → Happening (WorldState C) Event (List ℕ)
StopsMixed calls old e new lines = ((lines ≡ []) × (new ≡ old)) ⊎ MayTellMixed calls old e new lines

-- a calm is that of the hosts with programs: strangers have no turn, and stay strangers
abbrev pub TellsMixedAt : {C : Type 0} → Calls C → (C → AllParts) → Spot
    → Happening (WorldState C) WorldEvent (List ℕ)
TellsMixedAt calls members spot old (world.Happen e) new lines = TellsMixed calls members spot old e new lines
TellsMixedAt calls members spot old (world.Calm rounds) new lines =
    TellsAt calls members spot old (world.Calm rounds) new lines × (new.strangers ≡ old.strangers)

-- the events of a calm before one had their lines, and that one went as is said. So did an event that is no calm
abbrev pub MixedEndsAt : {C : Type 0} → Calls C → (C → AllParts) → Happening (WorldState C) Event (List ℕ)
    → Happening (WorldState C) Event (List ℕ) → Spot → Happening (WorldState C) WorldEvent (List ℕ)
MixedEndsAt calls members Goes GoesMixed spot old (world.Happen e) new lines = GoesMixed old e new lines
MixedEndsAt calls members Goes GoesMixed spot old (world.Calm rounds) new lines =
    EndsAt calls members Goes spot old (world.Calm rounds) new lines × (new.strangers ≡ old.strangers)

-- an event with where it is
abbrev pub AtSpot : {S E : Type 0} → (Spot → Happening S E (List ℕ)) → Happening S (Spot × E) (List ℕ)
AtSpot Tells old e new lines = Tells e.0 old e.1 new lines

-- ---- all events, numbered from 1, each of which comes after the number of its line in a script

-- they go one after the other
abbrev pub AllTell : {S E : Type 0} → (Spot → Happening S E (List ℕ)) → Happening S (List (ℕ × E)) (List ℕ)
AllTell Tells old events new lines = InTurn (AtSpot Tells) old (numbered_from 1 events) new lines

-- those before one do, and that one goes otherwise
abbrev pub AllEnd : {S E : Type 0} → (Spot → Happening S E (List ℕ)) → (Spot → Happening S E (List ℕ))
    → Happening S (List (ℕ × E)) (List ℕ)
AllEnd Tells Goes old events new lines =
    EndsInTurn (AtSpot Tells) (AtSpot Goes) old (numbered_from 1 events) new lines

abbrev pub TracesMixed : {C : Type 0} → Calls C → (C → AllParts) → WorldState C → List (ℕ × WorldEvent)
    → WorldState C → List (List ℕ) → Type 0
TracesMixed calls members old events new lines = AllTell (TellsMixedAt calls members) old events new lines

abbrev pub MixedTraceEnds : {C : Type 0} → Calls C → (C → AllParts) → Happening (WorldState C) Event (List ℕ)
    → Happening (WorldState C) Event (List ℕ) → WorldState C → List (ℕ × WorldEvent) → WorldState C
    → List (List ℕ) → Type 0
MixedTraceEnds calls members Goes GoesMixed old events new lines =
    AllEnd (TellsMixedAt calls members) (MixedEndsAt calls members Goes GoesMixed) old events new lines

-- memory ran out in one of the events, or for its line; a write failed for the line of one of them
abbrev pub MixedTraceStops : {C : Type 0} → Calls C → (C → AllParts) → WorldState C → List (ℕ × WorldEvent)
    → WorldState C → List (List ℕ) → Type 0
MixedTraceStops calls members old events new lines = MixedTraceEnds calls members (StopsOne calls) (StopsMixed calls)
    old events new lines

abbrev pub MixedTraceFails : {C : Type 0} → Calls C → (C → AllParts) → WorldState C → List (ℕ × WorldEvent)
    → WorldState C → Type 0
MixedTraceFails calls members old events new = (others : List (List ℕ))
    × MixedTraceEnds calls members (MayTell calls) (MayTellMixed calls) old events new others

-- ---- writing

-- the first line is written, and then these
abbrev pub AfterMixedOpening : {C : Type 0} → (C → AllParts) → TopologyFields → WorldState C → (List (List ℕ) → Type 0)
    → List (List ℕ) → Type 0
AfterMixedOpening members t opening AreLines lines = (others : List (List ℕ))
    × (lines ≡ mixed_opening members t opening ∷ others) × AreLines others

abbrev pub WritesMixed : {C : Type 0} → Calls C → (C → AllParts) → TopologyFields → WorldState C
    → List (ℕ × WorldEvent) → WorldState C → Option (List ℕ) → Option (List ℕ) → Type 0
WritesMixed calls members t old events new before after = WritesTrace
    (AfterMixedOpening members t old (TracesMixed calls members old events new)) before after

-- memory ran out in one of the events, or for its line: those before it have theirs
abbrev pub WritesMixedPart : {C : Type 0} → Calls C → (C → AllParts) → TopologyFields → WorldState C
    → List (ℕ × WorldEvent) → WorldState C → Option (List ℕ) → Option (List ℕ) → Type 0
WritesMixedPart calls members t old events new before after = WritesTrace
    (AfterMixedOpening members t old (MixedTraceStops calls members old events new)) before after
