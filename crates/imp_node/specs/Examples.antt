-- Small IMPs, packets and frames, for the worked rows.
use Rattle.std.specs.Prelude.{ℕ, ◌-◌, Bool, true, false, List, [], ◌∷◌, length, map, replicate, Option, Some}
use Rattle.std.specs.List.{range_with_len}
use Rattle.bit_messages.specs.Body.{body}
use Rattle.interface.specs.Host.{Host, most_imps}
use Rattle.interface.specs.declared.address.Flow.{Flow}
use Rattle.interface.specs.declared.message.HostMessage.{HostMessage}
use Rattle.link_table.specs.declared.destination.Fate.{Fate}
use Rattle.packetiser.specs.PacketFields.{PacketFields}
use Rattle.packetiser.specs.Slots.{SlotState}
use Rattle.packetiser.specs.declared.packet.PacketKind.{PacketKind}
use Rattle.packetiser.specs.declared.packet.PacketKind.TheVariants as kind
use Rattle.routing.specs.Vector.{infinite}
use Rattle.imp_channel.specs.declared.frame.Content.TheVariants as content
use Rattle.imp_channel.specs.declared.frame.Frame.{Frame}
use Rattle.imp_node.specs.declared.outgoing.Outgoing.{Outgoing}
use Rattle.imp_node.specs.declared.waiting.Message.{Message}
use Rattle.imp_node.specs.State.{State, ImpTurn, opening_node, up_host}
use Rattle.imp_node.specs.Flows.{answer_packet, noted}
use Rattle.imp_node.specs.Lines.{on_port}
use Rattle.imp_node.specs.Offering.{from_host}
use Rattle.imp_node.specs.Arrival.{from_line}
use Rattle.imp_node.specs.Pump.{pump}

-- ---- flows and packets

-- a host, by its own number and its IMP's
abbrev pub host : ℕ → ℕ → Host
host own imp = record { imp = imp; host = own }

abbrev pub flow : Host → Host → ℕ → Flow
flow from to link = record { source = from; destination = to; link = record { 0 = link } }

-- the one packet of the empty message with this number
abbrev pub only_packet : Flow → ℕ → PacketFields
only_packet f n = record {
  kind = kind.Data;
  source = f.source;
  destination = f.destination;
  link = f.link.0;
  number = n;
  place = 0;
  last = true;
  bits = body [];
}

-- the same with these bits, not the last of its message
abbrev pub first_packet : Flow → ℕ → List Bool → PacketFields
first_packet f n bits = record (only_packet f n) { last = false; bits = bits }

-- packets on links 0, 1, .. from host 0 at IMP 1 to host 0 at another
abbrev pub packets_to : ℕ → ℕ → List PacketFields
packets_to imp count = map (λ link. only_packet (flow (host 0 1) (host 0 imp) link) 0) (range_with_len 0 count)

-- ---- frames

abbrev pub no_acks : List Bool
no_acks = replicate 8 false

-- a packet on a channel under bit 0, with no acknowledgement
abbrev pub packet_frame : ℕ → PacketFields → Frame
packet_frame channel p = record { acks = no_acks; content = content.Packet (record { channel = channel; bit = false; packet = p }) }

-- an acknowledgement of channel 0 only
abbrev pub ack_frame : Frame
ack_frame = record { acks = true ∷ replicate 7 false; content = content.Nothing }

-- ---- what neighbours announce

-- the distances of IMP 2, of IMP 3 and of IMP 1, where they have heard nothing
abbrev pub from_2 : List ℕ
from_2 = infinite ∷ 0 ∷ replicate (most_imps - 2) infinite

abbrev pub from_3 : List ℕ
from_3 = infinite ∷ infinite ∷ 0 ∷ replicate (most_imps - 3) infinite

abbrev pub from_1 : List ℕ
from_1 = 0 ∷ replicate (most_imps - 1) infinite

-- the distances of IMP 3, which has heard IMP 2
abbrev pub from_3_near_2 : List ℕ
from_3_near_2 = infinite ∷ 1 ∷ 0 ∷ replicate (most_imps - 3) infinite

-- ---- IMPs

-- an IMP with two hosts, which heard this on its ports, and with these waiting packets
abbrev pub imp : ℕ → List (Option (List ℕ)) → List PacketFields → State
imp own heard store = record (opening_node own 2 (length heard)) { routes = record { own = own; heard = heard; claims = false }; store = store }

-- IMP 1 with port 0 to IMP 2 and port 1 to IMP 3, each heard, after it has stored this many packets for IMP 2
abbrev pub busy : ℕ → State
busy count = (pump [] (imp 1 (Some from_2 ∷ Some from_3 ∷ []) (packets_to 2 count))).state

-- empty messages on links 2, 3, .. between two hosts
abbrev pub messages_between : Host → Host → ℕ → List Message
messages_between from to count = map (λ link. record { flow = flow from to link; number = 0; text = [] }) (range_with_len 2 count)

-- IMP 1 with its two hosts and no line, where these messages wait for host 1
abbrev pub queueing : List Message → State
queueing queue = record (opening_node 1 2 0) { hosts = up_host ∷ record up_host { queue = queue } ∷ [] }

-- IMP 1 with port 0 to IMP 2, which it has heard, and two hosts; these messages wait for host 0
abbrev pub serving : List Message → State
serving queue = record (opening_node 1 2 1) { hosts = record up_host { queue = queue } ∷ up_host ∷ []; routes = record { own = 1; heard = Some from_2 ∷ []; claims = false } }

-- slots of this many flows, each with the first packet of a longer message
abbrev pub slots_of : ℕ → List SlotState
slots_of count = map (λ link. record { flow = flow (host 0 2) (host 0 1) link; number = 0; pieces = first_packet (flow (host 0 2) (host 0 1) link) 0 (replicate 1008 false) ∷ [] }) (range_with_len 0 count)

-- a message's packet whose body has no mark
abbrev pub unmarked_packet : Flow → ℕ → PacketFields
unmarked_packet f n = record (only_packet f n) { bits = replicate 16 false }

abbrev pub empty_message : Flow → HostMessage
empty_message f = record { flow = f; text = [] }

-- IMP 1 with port 0 to IMP 2, after its host 0 has sent an empty message to host 0 at IMP 2 on link 7
abbrev pub sent_imp : State
sent_imp = (from_host (imp 1 (Some from_2 ∷ []) []) (empty_message (flow (host 0 1) (host 0 2) 7))).state

-- and after an RFNM to that message, with this number
abbrev pub sent_answered : ℕ → ImpTurn
sent_answered n = from_line sent_imp 0 (packet_frame 0 (answer_packet kind.Rfnm (flow (host 0 1) (host 0 2) 7) n))

-- and after that IMP 2 reports that the message with this number never came
abbrev pub sent_never : ℕ → State → ImpTurn
sent_never n s = from_line s 0 (packet_frame 0 (answer_packet kind.Never (flow (host 0 1) (host 0 2) 7) n))

-- ---- questions

-- IMP 1 with port 0 to IMP 2, which has noted this number of a flow from host 0 at IMP 2 to its host 0, with this fate
abbrev pub noting : ℕ → Fate → State
noting n new = noted (flow (host 0 2) (host 0 1) 2) n new (serving [])

-- a question about the message of that flow with this number comes over port 0
abbrev pub after_question : ℕ → State → ImpTurn
after_question n s = from_line s 0 (packet_frame 0 (answer_packet kind.Ask (flow (host 0 2) (host 0 1) 2) n))

-- the answer to it, which goes out with the question acknowledged
abbrev pub told_back : PacketKind → ℕ → Outgoing
told_back told n = on_port 0 (record (packet_frame 0 (answer_packet told (flow (host 0 2) (host 0 1) 2) n)) { acks = ack_frame.acks })

-- a question about message 0 of a flow from host 0 at another IMP to host 0 at IMP 1 comes over port 1 to an IMP
abbrev pub question_from : ℕ → State → ImpTurn
question_from from s = from_line s 1 (packet_frame 0 (answer_packet kind.Ask (flow (host 0 from) (host 0 1) 5) 0))

-- IMP 1 without a line, after its host 0 has sent an empty message to its host 1 on link 7
abbrev pub sent_within : State
sent_within = (from_host (queueing []) (empty_message (flow (host 0 1) (host 1 1) 7))).state
