-- Words for worked examples: two hosts of IMP 1, one of IMP 2, and messages from the first to the third.
use Rattle.std.specs.Prelude.{ℕ, true, false, List, [], ◌∷◌, codes}
use Rattle.std.specs.FinMap as map
use Rattle.interface.specs.declared.crossing.Answer.TheVariants as answer
use Rattle.leader1822.specs.Boxes.{Boxes, offered, opening_boxes, with_queue}
use Rattle.interface.specs.declared.crossing.Crossing.TheVariants as crossing
use Rattle.interface.specs.Host.{Host}
use Rattle.interface.specs.declared.address.Flow.{Flow}
use Rattle.interface.specs.declared.event.NetEvent.TheVariants as net
use Rattle.interface.specs.declared.message.HostMessage.{HostMessage}
use Rattle.script.specs.declared.event.RawEvent.TheVariants as event
use Rattle.trace.specs.declared.element.Element.{Element}
use Rattle.trace.specs.declared.all_parts.AllParts.{AllParts}
use Rattle.trace.specs.declared.flow_part.FlowPart.{FlowPart}
use Rattle.trace.specs.declared.flow_part.FlowState.TheVariants as state
use Rattle.trace.specs.declared.flow_part.Side.TheVariants as side

abbrev pub first : Host
first = record { imp = 1; host = 0 }

abbrev pub second : Host
second = record { imp = 1; host = 1 }

abbrev pub third : Host
third = record { imp = 2; host = 0 }

abbrev pub hosts : List Host
hosts = first ∷ second ∷ third ∷ []

-- from the first host to the third on link 5
abbrev pub flow : Flow
flow = record { source = first; destination = third; link = record { 0 = 5 } }

-- three bits on that link, and no bits on the next one
abbrev pub short : HostMessage
short = record { flow = flow; text = true ∷ false ∷ true ∷ [] }

abbrev pub empty : HostMessage
empty = record { flow = record { source = first; destination = third; link = record { 0 = 6 } }; text = [] }

-- mailboxes in which the message of three bits waits
abbrev pub one_waits : Boxes
one_waits = offered (opening_boxes (first ∷ third ∷ [])) short

-- that message waits, and after it was taken its answer does
abbrev pub waiting : Boxes
waiting = record (opening_boxes (first ∷ third ∷ [])) { messages = with_queue map.empty third (short ∷ []) }

abbrev pub taken : Boxes
taken = record (opening_boxes (first ∷ third ∷ [])) { answers = with_queue map.empty first ((answer.Rfnm, flow) ∷ []) }

-- mailboxes of which only the hosts that are down matter
abbrev pub with_down : List Host → Boxes
with_down down = record (opening_boxes hosts) { down = down }

-- what is known of a flow at its source, and of two flows of other links
abbrev pub known : FlowPart
known = record { side = side.Source; flow = flow; state = state.Outstanding; number = 7 }

abbrev pub on_link : ℕ → FlowPart
on_link link = record known { flow = record flow { link = record { 0 = link } } }

-- and of the same flow at its destination
abbrev pub at_destination : FlowPart
at_destination = record known { side = side.Kept; state = state.Waits }

-- parts of a network with one that is always there, and these flows
abbrev pub with_flows : List (List FlowPart) → AllParts
with_flows flows = record { fixed = codes "a" ∷ []; flows = flows }

-- the second host stops
abbrev pub stop : Element
stop = record { round = 0; event = event.Net (net.HostDown second) }

-- a host takes in this round of a calm
abbrev pub takes : ℕ → Host → Element
takes round h = record { round = round; event = event.Take h }

-- takings of two rounds
abbrev pub three_takings : List Element
three_takings = takes 1 first ∷ takes 1 third ∷ takes 3 first ∷ []

-- mailboxes in whose log the first host has started
abbrev pub started : Boxes
started = record (opening_boxes hosts) { log = crossing.Up first ∷ [] }
