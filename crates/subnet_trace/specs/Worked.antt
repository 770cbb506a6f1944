-- Words for worked examples: a flow, packets of it, long numbers, and parts of calms.
use Rattle.std.specs.Prelude.{ℕ, ◌^◌, true, false, List, [], ◌∷◌, Option, None, Some, replicate}
use Rattle.std.specs.FinMap as map
use Rattle.interface.specs.Host.{Host}
use Rattle.interface.specs.declared.address.Flow.{Flow}
use Rattle.interface.specs.declared.event.Direction.{Direction}
use Rattle.interface.specs.declared.event.Direction.TheVariants as way
use Rattle.interface.specs.declared.event.NetEvent.TheVariants as net
use Rattle.script.specs.declared.event.RawEvent.TheVariants as event
use Rattle.imp_node.specs.Examples.{ack_frame, first_packet, from_1, imp, packet_frame, packets_to, slots_of, unmarked_packet}
use Rattle.imp_node.specs.Flows.{answer_packet}
use Rattle.imp_node.specs.Pump.{pump}
use Rattle.imp_node.specs.State.{State, down_port, no_host, opening_node}
use Rattle.interface.specs.declared.crossing.Answer.TheVariants as answer
use Rattle.link_table.specs.Flows.{noted}
use Rattle.link_table.specs.declared.destination.Fate.TheVariants as kept
use Rattle.routing.specs.RouteTable.{Table}
use Rattle.subnet.specs.Examples.{imp_1, imp_2, ours, pair, past_one, sending_ours, serving_ours}
use Rattle.subnet.specs.Opening.{opening_subnet}
use Rattle.subnet.specs.Net.{Net}
use Rattle.subnet_trace.specs.Fates.{fate_of}
use Rattle.trace.specs.declared.element.Element.{Element}
use Rattle.trace.specs.declared.fate.Fate.{Fate}
use Rattle.packetiser.specs.PacketFields.{PacketFields}
use Rattle.packetiser.specs.declared.packet.PacketKind.TheVariants as kind
use Rattle.packetiser.specs.Slots.{SlotState}
use Rattle.imp_channel.specs.declared.frame.Content.TheVariants as content
use Rattle.imp_channel.specs.declared.frame.Frame.{Frame}

-- from host 0 of IMP 1 to host 1 of IMP 2 on link 5
abbrev pub flow : Flow
flow = record { source = record { imp = 1; host = 0 }; destination = record { imp = 2; host = 1 }; link = record { 0 = 5 } }

-- the last piece of message 7 of it, at place 3, with sixteen bits
abbrev pub piece : PacketFields
piece = record { kind = kind.Data; source = flow.source; destination = flow.destination; link = 5; number = 7; place = 3; last = true; bits = true ∷ replicate 15 false }

-- a piece that is not the last; a real one has more bits
abbrev pub other_piece : PacketFields
other_piece = record piece { place = 1; last = false }

-- what became of message 7
abbrev pub rfnm : PacketFields
rfnm = record { kind = kind.Rfnm; source = flow.source; destination = flow.destination; link = 5; number = 7; place = 0; last = true; bits = [] }

abbrev pub slot : SlotState
slot = record { flow = flow; number = 7; pieces = other_piece ∷ piece ∷ [] }

-- IMP 1 with one host, for which a Dead about a flow waits
abbrev pub with_dead : Flow → State
with_dead f = record (opening_node 1 1 0) { hosts = record { up = true; answers = record { kind = answer.Dead; flow = f } ∷ []; queue = [] } ∷ [] }

-- IMP 1 heard of IMP 3 on port 0, and of IMP 2 on port 1, which is as near to IMP 3
abbrev pub heard_on_two : Table
heard_on_two = record { own = 1; heard = Some (1 ∷ 63 ∷ 0 ∷ replicate 60 63) ∷ Some (1 ∷ 0 ∷ 0 ∷ replicate 60 63) ∷ []; claims = false }

-- the least number of 65 digits
abbrev pub long : ℕ
long = 10 ^ 64

-- a frame with a packet on this channel
abbrev pub frame_on : ℕ → Frame
frame_on channel = record { acks = replicate 8 false; content = content.Packet (record { channel = channel; bit = false; packet = rfnm }) }

-- a network with a place for an IMP, but without IMPs and lines
abbrev pub nowhere : List (Option State) → Net
nowhere imps = record { hosts = []; sites = None ∷ []; imps = imps; lines = []; log = [] }

-- ---- calms of the subnets of subnet's worked rows: IMPs 1 and 2, with two hosts each, and line 0 between them

-- in a round an IMP sends its distances, or sends again
abbrev pub tells : ℕ → ℕ → Element
tells round i = record { round = round; event = event.Net (net.Route i) }

abbrev pub sends : ℕ → ℕ → Element
sends round i = record { round = round; event = event.Net (net.Resend i) }

-- the oldest frame of a directed line arrives, or is gone
abbrev pub arrives : ℕ → ℕ → Direction → Element
arrives round l d = record { round = round; event = event.Net (net.Deliver l d 0) }

abbrev pub gone : ℕ → ℕ → Direction → Element
gone round l d = record { round = round; event = event.Net (net.Drop l d 0) }

-- a host takes
abbrev pub takes : ℕ → Host → Element
takes round h = record { round = round; event = event.Take h }

-- IMP 1 has taken a packet from channel 0 of the line, and IMP 2 sends it again
abbrev pub past_at_1 : State
past_at_1 = record imp_1 { ports = past_one.ports }

abbrev pub sending_at_2 : State
sending_at_2 = (pump [] (imp 2 (Some from_1 ∷ []) (answer_packet kind.Rfnm ours 0 ∷ []))).state

-- a message waits at IMP 2 for host 0, and the store there is full
abbrev pub full_at_2 : State
full_at_2 = record (pump [] (imp 2 (Some from_1 ∷ []) (packets_to 1 32))).state { hosts = serving_ours.hosts }

-- IMP 1 is up only, holds a packet, and its line leads back to it
abbrev pub looping : Net
looping = record (pair (Some sending_ours) None [] []) { lines = record { a = 1; b = 1; forward = []; back = [] } ∷ [] }

-- both IMPs down, and frames on two lines
abbrev pub two_lines : Net
two_lines = record (pair None None [] []) { lines = record { a = 1; b = 2; forward = ack_frame ∷ ack_frame ∷ []; back = ack_frame ∷ [] } ∷ record { a = 1; b = 2; forward = []; back = ack_frame ∷ [] } ∷ [] }

-- one IMP, without hosts and lines: each round of a calm, it sends its distances to no one
abbrev pub lonely : Net
lonely = opening_subnet [] (None ∷ Some 0 ∷ []) []

-- ---- fates of frames that go from IMP 1 to IMP 2, of this state, and back

abbrev pub fate_at_2 : Option State → Frame → Option Fate
fate_at_2 s f = fate_of (pair None s (f ∷ []) []) (event.Net (net.Deliver 0 way.Forward 0))

abbrev pub fate_at_1 : Option State → Frame → Option Fate
fate_at_1 s f = fate_of (pair s None [] (f ∷ [])) (event.Net (net.Deliver 0 way.Back 0))

-- IMP 2 with its end of the line down, and with both hosts down
abbrev pub end_down_at_2 : State
end_down_at_2 = record imp_2 { ports = down_port ∷ [] }

abbrev pub hosts_down_at_2 : State
hosts_down_at_2 = record imp_2 { hosts = no_host ∷ no_host ∷ [] }

-- IMP 1 with a full store
abbrev pub full_at_1 : State
full_at_1 = record imp_1 { store = packets_to 2 32 }

-- a frame with distances
abbrev pub distances_frame : Frame
distances_frame = record { acks = replicate 8 false; content = content.Routes from_1 }

-- the frame of the first packet of a longer message of our flow, and of a packet whose body has no mark
abbrev pub piece_frame : Frame
piece_frame = packet_frame 0 (first_packet ours 0 (replicate 1008 false))

abbrev pub unmarked_frame : Frame
unmarked_frame = packet_frame 0 (unmarked_packet ours 0)

-- IMP 2 with the pieces of eight other messages, and with number 0 of our flow noted, whose message waits for its host
abbrev pub no_slot_at_2 : State
no_slot_at_2 = record imp_2 { slots = slots_of 8 }

abbrev pub waiting_at_2 : State
waiting_at_2 = record imp_2 { kept = noted map.empty ours 0 kept.Waits }
