-- What a trace has as printed, line by line.
use Rattle.std.specs.Prelude.{◌≡◌, ℕ, Bool, true, false, List, [], ◌∷◌, ◌++◌, Option, None, codes, map, zip}
use Rattle.std.specs.List.{flat_map}
use Rattle.interface.specs.declared.carrier.CarrierFault.TheVariants as fault
use Rattle.interface.specs.declared.crossing.Crossing.{Crossing}
use Rattle.interface.specs.declared.event.NetEvent.TheVariants as net
use Rattle.promise.specs.declared.life.Life.{Life}
use Rattle.replay.specs.InTurn.{text_of}
use Rattle.replay.specs.Output as raw
use Rattle.replay.specs.declared.print.Detail.TheVariants.{Sizes}
use Rattle.script.specs.declared.event.RawEvent.TheVariants as event
use Rattle.trace.specs.Texts.{trace_line}
use Rattle.trace.specs.declared.element.Element.{Element}
use Rattle.trace.specs.declared.element.Spot.{Spot}
use Rattle.trace.specs.declared.fate.Fate.{Fate}
use Rattle.world_replay.specs.Output.{Shown, shown_text}
use Rattle.world_script.specs.declared.event.WorldEvent.{WorldEvent}
use Rattle.world_trace.specs.Texts.{world_line}
use Rattle.interface.specs.Calls.{Calls}
use Rattle.leader1822.specs.Boxes.{plain_calls}
use Rattle.subnet.specs.Working.{subnet_calls}
use Rattle.subnet_trace.specs.Traced.{subnet_inside}
use Rattle.topology.specs.Topology.{TopologyFields}
use Rattle.topology.specs.declared.network.CarrierKind.{CarrierKind}
use Rattle.topology.specs.declared.network.CarrierKind.TheVariants as kind
use Rattle.net_sim.specs.Carriers.{shown}
use Rattle.trace.specs.Traces.{Inside, plain_inside}
use Rattle.trace.specs.declared.all_parts.AllParts.{AllParts}
use Rattle.command_line.specs.Carriers.{plain_of, subnet_of}
use Rattle.command_line.specs.Events.{Asked, Raw, World, are_some}
use Rattle.command_line.specs.Replayed.{book_text}
use Rattle.simulator.specs.Traced.{TracesAll, TracesIn, TracesInput, TracesOver}

-- a line of a trace after the first: of an elementary event of a network without host programs, or of an event with them, of the script or of a calm
pub data Recorded : Type 0 where
  OfElement : Spot → Element → Option Fate → List raw.Shown → List ℕ → Recorded
  OfWorld : Spot → ℕ → WorldEvent → List Crossing → List Shown → List (List ℕ) → Recorded

abbrev pub recorded_text : Recorded → List ℕ
recorded_text (OfElement spot x fate shown parts) = trace_line spot x fate shown parts
recorded_text (OfWorld spot round e crossings shown state) = world_line spot round e crossings shown state

-- the lines that it has as printed
abbrev pub printed_lines : Recorded → List (List ℕ)
printed_lines (OfElement spot x fate shown parts) = map (raw.shown_text Sizes) shown
printed_lines (OfWorld spot round e crossings shown state) = map (shown_text Sizes) shown

-- a trace has these lines, the first and one for each that is recorded, and a plain output is what they have as printed, one after the other, then
-- lives where the book is asked for, and a last line `end`
pub record PrintsTrace (book : Bool) (out trace : List ℕ) (lines : List (List ℕ)) : Type 0 where
  pub opening : List ℕ
  pub recorded : List Recorded
  pub lives : List Life
  pub written : trace ≡ text_of (λ line. line) lines
  pub traced : lines ≡ opening ∷ map recorded_text recorded
  pub printed : out ≡ text_of (λ line. line) (flat_map printed_lines recorded) ++ (book_text book lives ++ codes "end\n")

-- ---- the lines of a trace that was written

abbrev pub told_in : {C : Type 0} (among : Bool) (calls : Calls C) (members : C → AllParts) (t : TopologyFields) (opening : C)
    (events : List (ℕ × WorldEvent)) (before after : Option (List ℕ))
    → TracesIn among calls members t opening events before after → List (List ℕ)
told_in true calls members t opening events before after h = h.traced.shown
told_in false calls members t opening events before after h = h.traced.shown

abbrev pub told_from : {C : Type 0} (calls : Calls C) (inside : Inside C) (t : TopologyFields) (opening : C)
    (numbers : List ℕ) (events : Asked) (before after : Option (List ℕ))
    → TracesAll calls inside t opening numbers events before after → List (List ℕ)
told_from calls inside t opening numbers (Raw events) before after h = h.traced.shown
told_from calls inside t opening numbers (World events) before after h =
    told_in (are_some t.strangers) (shown calls) inside.members t opening (zip numbers events) before after h

abbrev pub told_over : (carrier : CarrierKind) (t : TopologyFields) (numbers : List ℕ) (events : Asked)
    (before after : Option (List ℕ)) → TracesOver carrier t numbers events before after → List (List ℕ)
told_over kind.Plain t numbers events before after h =
    told_from plain_calls plain_inside t (plain_of t) numbers events before after h
told_over kind.Subnet t numbers events before after h =
    told_from subnet_calls subnet_inside t (subnet_of t) numbers events before after h

-- of the trace of an input
abbrev pub told_lines : (octets : List ℕ) (before after : Option (List ℕ)) → TracesInput octets before after →
    List (List ℕ)
told_lines octets before after h = told_over h.network.carrier h.network h.lines h.events before after h.traced

-- ---- a worked line: `forget 1 2` is refused

abbrev pub unforgotten : Recorded
unforgotten = OfElement (record { line = 5; number = 1 }) (record { round = 0; event = event.Net (net.Forget 1 2) })
    None (raw.Refused fault.Unsettled ∷ []) (codes "{}")
