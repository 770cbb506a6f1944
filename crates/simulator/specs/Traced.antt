-- What is written of a replay as a trace.
use Rattle.std.specs.Prelude.{◌≡◌, ℕ, Bool, true, false, IfSome, List, Option, length, zip}
use Rattle.leader1822.specs.Boxes.{plain_calls}
use Rattle.interface.specs.Calls.{Calls}
use Rattle.script.specs.Input.{IsParted}
use Rattle.script.specs.declared.event.RawEvent.{RawEvent}
use Rattle.subnet_trace.specs.Traced.{subnet_inside}
use Rattle.topology.specs.Topology.{TopologyFields}
use Rattle.topology.specs.declared.network.CarrierKind.{CarrierKind}
use Rattle.topology.specs.declared.network.CarrierKind.TheVariants as kind
use Rattle.trace.specs.Traces.{AfterOpening, Inside, StopsElement, TraceEnds, Traces, WritesTrace, event_lines, plain_inside}
use Rattle.trace.specs.declared.all_parts.AllParts.{AllParts}
use Rattle.net_sim.specs.Carriers.{shown}
use Rattle.net_sim.specs.Steps.{opening_mixed}
use Rattle.net_sim.specs.World.{WorldState, opening_world}
use Rattle.world_script.specs.declared.event.WorldEvent.{WorldEvent}
use Rattle.world_trace.specs.MixedTraces.{WritesMixed, WritesMixedPart}
use Rattle.world_trace.specs.Traces as worlds
use Rattle.world_trace.specs.Traces.{StopsOne, TracesWorld, WorldTraceEnds}
use Rattle.subnet.specs.Working.{subnet_calls}
use Rattle.command_line.specs.Carriers.{plain_of, subnet_of}
use Rattle.command_line.specs.Events.{Asked, Raw, World, are_some}
use Rattle.command_line.specs.Input.{IsInput}
use Rattle.command_line.specs.Stopping.{NothingOr}

-- events, of which each comes after the number of its line in a script, are replayed over a carrier with such calls and such an inside, and their trace is
-- written, first the network and then a line for each elementary event, and nothing else
pub record TracesFrom {C : Type 0} (calls : Calls C) (inside : Inside C) (t : TopologyFields) (opening : C) (events : List (ℕ × RawEvent)) (before after : Option (List ℕ)) : Type 0 where
  pub last : C
  pub traced : WritesTrace (AfterOpening inside t opening (Traces calls inside opening events last)) before after

-- memory ran out in one of the elementary events: the first line and those of the events before it are written, and nothing else
pub record EndsFrom {C : Type 0} (calls : Calls C) (inside : Inside C) (t : TopologyFields) (opening : C) (events : List (ℕ × RawEvent)) (before after : Option (List ℕ)) : Type 0 where
  pub last : C
  pub traced : WritesTrace (AfterOpening inside t opening (TraceEnds calls inside (StopsElement calls) opening events last)) before after

-- events of hosts with programs are replayed over a carrier that shows all its parts as these members of an object, and their trace is written, first
-- the network and then a line for each event, of a calm for each of its own that prints or changes something, and nothing else
pub record WorldTracesFrom {C : Type 0} (calls : Calls C) (members : C → AllParts) (t : TopologyFields) (opening : C) (events : List (ℕ × WorldEvent)) (before after : Option (List ℕ)) : Type 0 where
  pub last : WorldState C
  pub traced : WritesTrace (worlds.AfterOpening members t (opening_world calls opening) (TracesWorld calls members (opening_world calls opening) events last)) before after

-- memory ran out in one of them
pub record WorldEndsFrom {C : Type 0} (calls : Calls C) (members : C → AllParts) (t : TopologyFields) (opening : C) (events : List (ℕ × WorldEvent)) (before after : Option (List ℕ)) : Type 0 where
  pub last : WorldState C
  pub traced : WritesTrace (worlds.AfterOpening members t (opening_world calls opening) (WorldTraceEnds calls members (StopsOne calls) (opening_world calls opening) events last)) before after

-- events are replayed so where these hosts of a topology are strangers, and their trace is written: the first line also says who they are
pub record TracesAmong {C : Type 0} (calls : Calls C) (members : C → AllParts) (t : TopologyFields) (opening : C) (events : List (ℕ × WorldEvent)) (before after : Option (List ℕ)) : Type 0 where
  pub last : WorldState C
  pub traced : WritesMixed calls members t (opening_mixed calls opening t.strangers) events last before after

-- memory ran out in one of them
pub record EndsAmong {C : Type 0} (calls : Calls C) (members : C → AllParts) (t : TopologyFields) (opening : C) (events : List (ℕ × WorldEvent)) (before after : Option (List ℕ)) : Type 0 where
  pub last : WorldState C
  pub traced : WritesMixedPart calls members t (opening_mixed calls opening t.strangers) events last before after

-- with strangers or without
abbrev pub TracesIn : {C : Type 0} → Bool → Calls C → (C → AllParts) → TopologyFields → C → List (ℕ × WorldEvent) → Option (List ℕ) → Option (List ℕ) → Type 0
TracesIn true calls members t opening events before after = TracesAmong calls members t opening events before after
TracesIn false calls members t opening events before after = WorldTracesFrom calls members t opening events before after

abbrev pub EndsIn : {C : Type 0} → Bool → Calls C → (C → AllParts) → TopologyFields → C → List (ℕ × WorldEvent) → Option (List ℕ) → Option (List ℕ) → Type 0
EndsIn true calls members t opening events before after = EndsAmong calls members t opening events before after
EndsIn false calls members t opening events before after = WorldEndsFrom calls members t opening events before after

-- events of either kind, which are in these lines of a script
abbrev pub TracesAll : {C : Type 0} → Calls C → Inside C → TopologyFields → C → List ℕ → Asked → Option (List ℕ) → Option (List ℕ) → Type 0
TracesAll calls inside t opening lines (Raw events) before after = TracesFrom calls inside t opening (zip lines events) before after
TracesAll calls inside t opening lines (World events) before after = TracesIn (are_some t.strangers) (shown calls) inside.members t opening (zip lines events) before after

abbrev pub EndsAll : {C : Type 0} → Calls C → Inside C → TopologyFields → C → List ℕ → Asked → Option (List ℕ) → Option (List ℕ) → Type 0
EndsAll calls inside t opening lines (Raw events) before after = EndsFrom calls inside t opening (zip lines events) before after
EndsAll calls inside t opening lines (World events) before after = EndsIn (are_some t.strangers) (shown calls) inside.members t opening (zip lines events) before after

-- ---- of a topology

abbrev pub TracesOver : CarrierKind → TopologyFields → List ℕ → Asked → Option (List ℕ) → Option (List ℕ) → Type 0
TracesOver kind.Plain t lines events before after = TracesAll plain_calls plain_inside t (plain_of t) lines events before after
TracesOver kind.Subnet t lines events before after = TracesAll subnet_calls subnet_inside t (subnet_of t) lines events before after

abbrev pub EndsOver : CarrierKind → TopologyFields → List ℕ → Asked → Option (List ℕ) → Option (List ℕ) → Type 0
EndsOver kind.Plain t lines events before after = EndsAll plain_calls plain_inside t (plain_of t) lines events before after
EndsOver kind.Subnet t lines events before after = EndsAll subnet_calls subnet_inside t (subnet_of t) lines events before after

abbrev pub TracesOn : TopologyFields → List ℕ → Asked → Option (List ℕ) → Option (List ℕ) → Type 0
TracesOn t lines events before after = TracesOver t.carrier t lines events before after

abbrev pub EndsOn : TopologyFields → List ℕ → Asked → Option (List ℕ) → Option (List ℕ) → Type 0
EndsOn t lines events before after = EndsOver t.carrier t lines events before after

-- ---- of an input

-- what follows the marker line of an input
pub record IsScriptOf (octets script : List ℕ) : Type 0 where
  pub document : List ℕ
  pub parted : IsParted octets document script

-- how many events
abbrev pub asked_count : Asked → ℕ
asked_count (Raw events) = length events
asked_count (World events) = length events

-- an input of these events, which are in these lines of its script
pub record IsScripted (octets : List ℕ) (network : TopologyFields) (lines : List ℕ) (events : Asked) : Type 0 where
  pub script : List ℕ
  pub input : IsInput octets network events
  pub parted : IsScriptOf octets script
  pub numbered : lines ≡ event_lines script
  pub fits : length lines ≡ asked_count events

-- the trace of its script over the carrier of its topology is written
pub record TracesInput (octets : List ℕ) (before after : Option (List ℕ)) : Type 0 where
  pub network : TopologyFields
  pub lines : List ℕ
  pub events : Asked
  pub input : IsScripted octets network lines events
  pub traced : TracesOn network lines events before after

-- memory ran out while it was replayed
pub record TraceStops (octets : List ℕ) (before after : Option (List ℕ)) : Type 0 where
  pub network : TopologyFields
  pub lines : List ℕ
  pub events : Asked
  pub input : IsScripted octets network lines events
  pub stopped : EndsOn network lines events before after

-- nothing is written, or this much of a reader's octets, where these are known
abbrev pub TraceStopsKnown : Option (List ℕ) → Option (List ℕ) → Option (List ℕ) → Type 0
TraceStopsKnown known before after = IfSome known (λ octets. NothingOr (TraceStops octets) before after)

-- the same of some script and some topology, for any reader
pub record Traced (before after : Option (List ℕ)) : Type 0 where
  pub network : TopologyFields
  pub lines : List ℕ
  pub events : Asked
  pub traced : TracesOn network lines events before after

pub record TracedInPart (before after : Option (List ℕ)) : Type 0 where
  pub network : TopologyFields
  pub lines : List ℕ
  pub events : Asked
  pub stopped : EndsOn network lines events before after
