-- How what is inside a subnet is spelled: a JSON text for each IMP and each line.
use Rattle.std.specs.Prelude.{ℕ, ◌+◌, Bool, true, false, nat_lt, List, [], ◌∷◌, ◌++◌, Option, Some, None, codes, if◌then◌else◌, map}
use Rattle.std.specs.List.{list_any, range_with_len}
use Rattle.std.specs.FinMap as fin
use Rattle.std.specs.Fmt.{decimal}
use Rattle.interface.specs.Host.{most_imps}
use Rattle.interface.specs.declared.address.Flow.{Flow}
use Rattle.packetiser.specs.PacketFields.{PacketFields, flow_of}
use Rattle.packetiser.specs.Slots.{SlotState}
use Rattle.packetiser.specs.declared.packet.PacketKind.{PacketKind}
use Rattle.packetiser.specs.declared.packet.PacketKind.TheVariants as kind
use Rattle.routing.specs.RouteTable.{Table, next_of, vector_of}
use Rattle.routing.specs.Vector.{infinite}
use Rattle.imp_channel.specs.declared.channel.Channel.{Channel}
use Rattle.imp_channel.specs.declared.frame.Content.{Content}
use Rattle.imp_channel.specs.declared.frame.Content.TheVariants as content
use Rattle.imp_channel.specs.declared.frame.Frame.{Frame}
use Rattle.link_table.specs.Flows.{last_of}
use Rattle.link_table.specs.declared.destination.Fate.{Fate}
use Rattle.link_table.specs.declared.destination.Fate.TheVariants as fate
use Rattle.link_table.specs.declared.destination.Noted.{Noted}
use Rattle.link_table.specs.declared.source.Standing.{Standing}
use Rattle.link_table.specs.declared.source.Standing.TheVariants as standing
use Rattle.imp_node.specs.Flows.{is_about}
use Rattle.imp_node.specs.State.{HostState, State, host_at}
use Rattle.imp_node.specs.declared.port.Port.{Port}
use Rattle.imp_node.specs.declared.waiting.Message.{Message}
use Rattle.imp_node.specs.declared.waiting.Told.{Told}
use Rattle.subnet.specs.Net.{Wire}
use Rattle.trace.specs.declared.flow_part.FlowPart.{FlowPart}
use Rattle.trace.specs.declared.flow_part.FlowState.{FlowState}
use Rattle.trace.specs.declared.flow_part.FlowState.TheVariants as state
use Rattle.trace.specs.declared.flow_part.Side.TheVariants as side
use Rattle.trace.specs.Texts.{answer_object, array, bits_members, bool_text, flow_members, member, object, quoted}

-- ---- bits

abbrev pub bit_text : Bool → List ℕ
bit_text true = codes "1"
bit_text false = codes "0"

-- bits, the first one first
abbrev pub bits_text : List Bool → List ℕ
bits_text [] = []
bits_text (bit ∷ bits) = bit_text bit ++ bits_text bits

-- ---- packets and frames

abbrev pub kind_word : PacketKind → List ℕ
kind_word kind.Data = codes "data"
kind_word kind.Rfnm = codes "rfnm"
kind_word kind.Dead = codes "dead"
kind_word kind.Ask = codes "ask"
kind_word kind.Never = codes "never"

-- what a packet has beside its kind and its flow
abbrev pub piece_members : PacketFields → List (List ℕ)
piece_members p = member (codes "number") (decimal p.number) ∷ member (codes "place") (decimal p.place) ∷ member (codes "last") (bool_text p.last) ∷ bits_members p.bits

abbrev pub packet_text : PacketFields → List ℕ
packet_text p = object (member (codes "kind") (quoted (kind_word p.kind)) ∷ (flow_members (flow_of p) ++ piece_members p))

-- those of these distances that are less than 63, each with the number of its IMP, of which the first is this one
abbrev pub finite_from : ℕ → List ℕ → List (List ℕ)
finite_from imp [] = []
finite_from imp (d ∷ distances) = (if nat_lt d infinite then member (decimal imp) (decimal d) ∷ [] else []) ++ finite_from (imp + 1) distances

-- distances to IMP 1, 2 and so on
abbrev pub distances_text : List ℕ → List ℕ
distances_text distances = object (finite_from 1 distances)

-- what a frame has beside its acknowledgement bits
abbrev pub content_members : Content → List (List ℕ)
content_members (content.Packet carried) =
    member (codes "channel") (decimal carried.channel) ∷ member (codes "bit") (bit_text carried.bit) ∷ member (codes "packet") (packet_text carried.packet) ∷ []
content_members content.Nothing = []
content_members (content.Routes distances) = member (codes "routes") (distances_text distances) ∷ []

abbrev pub frame_text : Frame → List ℕ
frame_text f = object (member (codes "acks") (quoted (bits_text f.acks)) ∷ content_members f.content)

-- ---- what an IMP keeps

-- a whole message that waits
abbrev pub whole_text : Message → List ℕ
whole_text m = object (flow_members m.flow ++ (member (codes "number") (decimal m.number) ∷ bits_members m.text))

abbrev pub told_text : Told → List ℕ
told_text t = answer_object (t.kind, t.flow)

abbrev pub host_object : HostState → List ℕ
host_object h = object (member (codes "up") (bool_text h.up) ∷ member (codes "messages") (array (map whole_text h.queue)) ∷ member (codes "answers") (array (map told_text h.answers)) ∷ [])

-- the packet in a channel, if one waits there
abbrev pub held_members : Option PacketFields → List (List ℕ)
held_members None = []
held_members (Some packet) = member (codes "packet") (packet_text packet) ∷ []

-- a channel: the bit of its packet or, if it is free, of the next one
abbrev pub channel_text : Channel → List ℕ
channel_text channel = object (member (codes "bit") (bit_text channel.bit) ∷ held_members channel.packet)

abbrev pub port_object : Port → List ℕ
port_object p = object (member (codes "up") (bool_text p.up) ∷ member (codes "sending") (array (map channel_text p.line.sending)) ∷ member (codes "expected") (quoted (bits_text p.line.expected)) ∷ [])

-- what a neighbour announced last
abbrev pub heard_text : Option (List ℕ) → List ℕ
heard_text None = codes "null"
heard_text (Some distances) = distances_text distances

-- a message in reassembly: its pieces
abbrev pub slot_text : SlotState → List ℕ
slot_text s = array (map packet_text s.pieces)

-- whether an answer about a flow waits for its source
abbrev pub awaits_host : State → Flow → Bool
awaits_host s f = list_any (is_about f) (host_at s f.source.host).answers

-- what is known of a flow at its source. Where its last number is idle and an answer about it waits all the same, that is a Dead which
-- was given at once
abbrev pub standing_state : Bool → Standing → FlowState
standing_state waits (standing.Idle l) = if waits then state.Dead else state.Idle
standing_state waits (standing.Outstanding l) = state.Outstanding
standing_state waits (standing.Answered l) = state.Answered

-- a flow at its source, an IMP of this state
abbrev pub source_part : State → Flow × Standing → FlowPart
source_part s e = record { side = side.Source; flow = e.0; state = standing_state (awaits_host s e.0) e.1; number = last_of e.1 }

abbrev pub fate_state : Fate → FlowState
fate_state fate.Waits = state.Waits
fate_state fate.Taken = state.Taken
fate_state fate.Dead = state.Dead
fate_state fate.Never = state.Never

-- a flow at its destination
abbrev pub kept_part : Flow × Noted → FlowPart
kept_part e = record { side = side.Kept; flow = e.0; state = fate_state e.1.fate; number = e.1.number }

-- what an IMP knows of the flows that begin there, in order. It knows nothing while it is down
abbrev pub sources_of : Option State → List FlowPart
sources_of None = []
sources_of (Some s) = map (source_part s) (fin.entries s.sources)

-- and of those that end there
abbrev pub kept_of : Option State → List FlowPart
kept_of None = []
kept_of (Some s) = map kept_part (fin.entries s.kept)

-- the port that packets to an IMP take, where a way leads there
abbrev pub next_members : ℕ → Option ℕ → List (List ℕ)
next_members imp None = []
next_members imp (Some port) = member (decimal imp) (decimal port) ∷ []

-- the ports to these IMPs
abbrev pub next_from : Table → List ℕ → List (List ℕ)
next_from t [] = []
next_from t (imp ∷ imps) = next_members imp (next_of t imp) ++ next_from t imps

-- the ports to IMP 1, 2 and so on
abbrev pub next_text : Table → List ℕ
next_text t = object (next_from t (range_with_len 1 most_imps))

-- what an IMP keeps beside what it knows of flows, and what it concludes of routes
abbrev pub imp_members : State → List (List ℕ)
imp_members s =
    member (codes "hosts") (array (map host_object s.hosts))
    ∷ member (codes "ports") (array (map port_object s.ports))
    ∷ member (codes "routes") (array (map heard_text s.routes.heard))
    ∷ member (codes "store") (array (map packet_text s.store))
    ∷ member (codes "slots") (array (map slot_text s.slots))
    ∷ member (codes "distances") (distances_text (vector_of s.routes))
    ∷ member (codes "next") (next_text s.routes)
    ∷ []

-- ---- parts

-- an IMP, which may be down
abbrev pub imp_text : Option State → List ℕ
imp_text None = codes "null"
imp_text (Some s) = object (imp_members s)

-- a line: the frames that are live each way
abbrev pub line_text : Wire → List ℕ
line_text w = object (member (codes "+") (array (map frame_text w.forward)) ∷ member (codes "-") (array (map frame_text w.back)) ∷ [])
