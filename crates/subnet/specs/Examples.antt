-- Small subnets, for the worked rows.
use Rattle.std.specs.Prelude.{ℕ, ◌-◌, true, false, List, [], ◌∷◌, Option, Some, None, replicate}
use Rattle.std.specs.FinMap as map
use Rattle.interface.specs.Host.{most_imps}
use Rattle.interface.specs.declared.address.Flow.{Flow}
use Rattle.interface.specs.declared.message.HostMessage.{HostMessage}
use Rattle.link_table.specs.Flows.{begun, noted}
use Rattle.link_table.specs.declared.destination.Fate.TheVariants as fate
use Rattle.link_table.specs.declared.source.Standing.TheVariants as standing
use Rattle.packetiser.specs.declared.packet.PacketKind.TheVariants as kind
use Rattle.routing.specs.Vector.{infinite}
use Rattle.imp_channel.specs.Line as line
use Rattle.imp_channel.specs.declared.frame.Frame.{Frame}
use Rattle.imp_node.specs.declared.waiting.Message.{Message}
use Rattle.imp_node.specs.State.{State, no_host, up_host, down_port}
use Rattle.imp_node.specs.Flows.{answer_packet}
use Rattle.imp_node.specs.Pump.{pump}
use Rattle.imp_node.specs.Examples.{host, flow, only_packet, packets_to, packet_frame, ack_frame, empty_message, from_1, from_2, imp}
use Rattle.subnet.specs.Net.{Net, Wire}
use Rattle.subnet.specs.Opening.{opening_subnet, hosts_from}

-- ---- one flow, from host 0 at IMP 1 to host 0 at IMP 2, its empty messages and their frames

abbrev pub ours : Flow
ours = flow (host 0 1) (host 0 2) 7

abbrev pub our_message : HostMessage
our_message = empty_message ours

-- its message with this number, in a queue
abbrev pub our_queued : ℕ → Message
our_queued n = record { flow = ours; number = n; text = [] }

-- the frame of its one packet, and of the RFNM to it
abbrev pub data_frame : ℕ → Frame
data_frame n = packet_frame 0 (only_packet ours n)

abbrev pub rfnm_frame : ℕ → Frame
rfnm_frame n = packet_frame 0 (answer_packet kind.Rfnm ours n)

-- of the question about it, and of the packet that says that it never came
abbrev pub ask_frame : ℕ → Frame
ask_frame n = packet_frame 0 (answer_packet kind.Ask ours n)

abbrev pub never_frame : ℕ → Frame
never_frame n = packet_frame 0 (answer_packet kind.Never ours n)

-- the frame of a packet that IMP 1 only passes on, from IMP 3 to IMP 2
abbrev pub passing_frame : Frame
passing_frame = packet_frame 0 (only_packet (flow (host 0 3) (host 0 2) 7) 0)

-- ---- IMPs 1 and 2, each with two hosts, and line 0 between them

-- each has heard the other
abbrev pub imp_1 : State
imp_1 = imp 1 (Some from_2 ∷ []) []

abbrev pub imp_2 : State
imp_2 = imp 2 (Some from_1 ∷ []) []

abbrev pub sites : List (Option ℕ)
sites = None ∷ Some 2 ∷ Some 2 ∷ []

abbrev pub wire : List Frame → List Frame → Wire
wire forward back = record { a = 1; b = 2; forward = forward; back = back }

-- the two, where they are up, with these frames from IMP 1 and from IMP 2
abbrev pub pair : Option State → Option State → List Frame → List Frame → Net
pair one two forward back = record {
  hosts = hosts_from 0 sites;
  sites = sites;
  imps = None ∷ one ∷ two ∷ [];
  lines = wire forward back ∷ [];
  log = [];
}

-- the same two at their opening
abbrev pub opened_pair : Net
opened_pair = opening_subnet (hosts_from 0 sites) sites (record { a = 1; b = 2 } ∷ [])

-- IMP 1 after it began numbers of our flow up to this one, which was answered
abbrev pub begun_up_to : ℕ → State
begun_up_to last = record imp_1 { sources = map.insert map.empty ours (standing.Idle last) }

-- IMP 1 while this number of our flow is outstanding, and while the answer to it waits for the host
abbrev pub outstanding_up_to : ℕ → State
outstanding_up_to last = record imp_1 { sources = map.insert map.empty ours (standing.Outstanding last) }

abbrev pub answered_up_to : ℕ → State
answered_up_to last = record imp_1 { sources = map.insert map.empty ours (standing.Answered last) }

-- IMP 1 while number 0 of our flow is outstanding
abbrev pub expecting : State
expecting = record imp_1 { sources = begun map.empty ours }

-- the same without a live route, and with a store that is full
abbrev pub expecting_cut_off : State
expecting_cut_off = record expecting { routes = record { own = 1; heard = None ∷ []; claims = false } }

abbrev pub expecting_full : State
expecting_full = record expecting { store = packets_to 3 32 }

-- IMP 1 with host 0 down
abbrev pub one_host_down : State
one_host_down = record imp_1 { hosts = no_host ∷ up_host ∷ [] }

-- IMP 1 with both hosts down
abbrev pub hosts_down : State
hosts_down = record imp_1 { hosts = no_host ∷ no_host ∷ [] }

-- IMP 2 with its end of the line down
abbrev pub cut_off : State
cut_off = record imp_2 { ports = down_port ∷ [] }

-- IMP 2 with our message 0 in the queue of its host
abbrev pub serving_ours : State
serving_ours = record imp_2 { hosts = record up_host { queue = our_queued 0 ∷ [] } ∷ up_host ∷ [] }

-- IMP 2 that has noted this number of our flow, whose message was taken, and number 0
abbrev pub keeping_up_to : ℕ → State
keeping_up_to last = record imp_2 { kept = noted map.empty ours last fate.Taken }

abbrev pub keeping_ours : State
keeping_ours = keeping_up_to 0

-- IMP 1 that has noted number 0 of a flow between its own hosts
abbrev pub keeping_own : State
keeping_own = record imp_1 { kept = noted map.empty (flow (host 0 1) (host 1 1) 7) 0 fate.Taken }

-- IMP 1 with our packet 0 in channel 0 of the line
abbrev pub sending_ours : State
sending_ours = (pump [] (imp 1 (Some from_2 ∷ []) (only_packet ours 0 ∷ []))).state

-- IMP 2 that took a packet from channel 0 of the line
abbrev pub past_one : State
past_one = record imp_2 { ports = record { up = true; line = record line.opening_end { expected = true ∷ replicate 7 false } } ∷ [] }

-- ---- three IMPs in a row: line 0 from IMP 1 to IMP 2, and line 1 from IMP 3 to IMP 2

-- the distances of IMPs 1, 2 and 3
abbrev pub told_1 : List ℕ
told_1 = 0 ∷ 1 ∷ 2 ∷ replicate (most_imps - 3) infinite

abbrev pub told_2 : List ℕ
told_2 = 1 ∷ 0 ∷ 1 ∷ replicate (most_imps - 3) infinite

abbrev pub told_3 : List ℕ
told_3 = 2 ∷ 1 ∷ 0 ∷ replicate (most_imps - 3) infinite

-- each has heard the distances of its neighbours
abbrev pub first_in_row : State
first_in_row = imp 1 (Some told_2 ∷ []) []

abbrev pub middle_in_row : State
middle_in_row = imp 2 (Some told_1 ∷ Some told_3 ∷ []) []

abbrev pub last_in_row : State
last_in_row = imp 3 (Some told_2 ∷ []) []

-- the flows from end to end
abbrev pub flow_1_3 : Flow
flow_1_3 = flow (host 0 1) (host 0 3) 7

abbrev pub flow_3_1 : Flow
flow_3_1 = flow (host 0 3) (host 0 1) 7

-- the three, where they are up, with these frames from IMP 1 and from IMP 3
abbrev pub row : Option State → Option State → Option State → List Frame → List Frame → Net
row one two three from_1 from_3 = record {
  hosts = hosts_from 0 (None ∷ Some 2 ∷ Some 2 ∷ Some 2 ∷ []);
  sites = None ∷ Some 2 ∷ Some 2 ∷ Some 2 ∷ [];
  imps = None ∷ one ∷ two ∷ three ∷ [];
  lines = wire from_1 [] ∷ record { a = 3; b = 2; forward = from_3; back = [] } ∷ [];
  log = [];
}

-- IMP 3 while a message of its host 0 to host 0 at IMP 2 is outstanding
abbrev pub expecting_at_3 : State
expecting_at_3 = record last_in_row { sources = begun map.empty (flow (host 0 3) (host 0 2) 7) }

-- IMP 3 that has noted number 0 of the flow from IMP 1
abbrev pub keeping_at_3 : State
keeping_at_3 = record last_in_row { kept = noted map.empty flow_1_3 0 fate.Taken }

-- ---- lines only

-- a line with this many acknowledgements from IMP 1
abbrev pub full_of : ℕ → List Wire
full_of count = wire (replicate count ack_frame) [] ∷ []

-- lines 0 from IMP 1 to IMP 2, 1 from 1 to 3, and 2 from 2 to 3
abbrev pub triangle : List Wire
triangle = wire [] [] ∷ record { a = 1; b = 3; forward = []; back = [] } ∷ record { a = 2; b = 3; forward = []; back = [] } ∷ []
