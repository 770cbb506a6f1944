-- A frame comes in on a line.
use Rattle.std.specs.Prelude.{ℕ, Bool, true, false, not, List, [], ◌∷◌, length, Option, Some, None, Result, Ok, Err, nat_lt, ◌==◌, if◌then◌else◌}
use Rattle.std.specs.FinMap as map
use Rattle.bit_messages.specs.Body.{has_mark, text_of}
use Rattle.interface.specs.declared.carrier.CarrierFault.{CarrierFault}
use Rattle.interface.specs.declared.carrier.CarrierFault.TheVariants as fault
use Rattle.interface.specs.declared.crossing.Answer.{Answer}
use Rattle.interface.specs.declared.crossing.Answer.TheVariants as answer
use Rattle.link_table.specs.Flows.{kept_in, asked_in}
use Rattle.link_table.specs.Numbers.{is_new}
use Rattle.link_table.specs.declared.destination.Asked.{Asked}
use Rattle.link_table.specs.declared.destination.Asked.TheVariants as asked
use Rattle.link_table.specs.declared.destination.Fate.{Fate}
use Rattle.link_table.specs.declared.destination.Fate.TheVariants as fate
use Rattle.packetiser.specs.PacketFields.{PacketFields, flow_of}
use Rattle.packetiser.specs.Slots.{answer_of, added, without}
use Rattle.packetiser.specs.declared.packet.PacketKind.{PacketKind}
use Rattle.packetiser.specs.declared.packet.PacketKind.TheVariants as kind
use Rattle.packetiser.specs.declared.reassembly.Added.{Added}
use Rattle.packetiser.specs.declared.reassembly.Added.TheVariants as piece
use Rattle.imp_channel.specs.Line.{acknowledgement, answer_to, state_after}
use Rattle.imp_channel.specs.declared.fault.ChannelFault.{ChannelFault}
use Rattle.imp_channel.specs.declared.frame.Frame.{Frame}
use Rattle.imp_channel.specs.declared.line.Received.{Received}
use Rattle.imp_channel.specs.declared.line.Received.TheVariants as received
use Rattle.routing.specs.RouteTable.{hears}
use Rattle.imp_node.specs.declared.outgoing.Outgoing.{Outgoing}
use Rattle.imp_node.specs.State.{State, ImpTurn, number, is_up, port_at, with_port}
use Rattle.imp_node.specs.Room.{has_room_to, queue_has_room}
use Rattle.imp_node.specs.Flows.{freed, noted, message_queued, answer_packet}
use Rattle.imp_node.specs.Pump.{target, stored, pump}

-- ---- what a fresh packet is to the IMP

pub data Arrival : Type 0 where
  -- it is for another IMP
  Passing : Arrival
  -- a piece with an old number, or one that its slot has already or that contradicts it; or a question that is not answered
  Old : Arrival
  -- what ends a message that isn't whole: its number is noted with this fate, and its source is informed so by a packet of this kind.
  -- A piece with a new number for a host that is down or not there (Dead), or a question about a new number (Never)
  Undeliverable : (new : Fate) → (told : PacketKind) → Arrival
  -- a question about the number noted last, which is answered by a packet of this kind
  Replying : (told : PacketKind) → Arrival
  -- a piece with a new number, and its message is not whole yet
  Piece : Arrival
  -- the same, and no slot is free for it
  NoSlot : Arrival
  -- the piece that makes its message whole
  Whole : (text : List Bool) → Arrival
  -- the piece that makes a body whole which has no mark
  Unmarked : Arrival
  -- an answer to a message of a host here
  Answering : (kind : Answer) → Arrival

abbrev pub piece_arrival : Added → Arrival
piece_arrival piece.Kept = Piece
piece_arrival (piece.Whole body) = if has_mark body then Whole (text_of body) else Unmarked
piece_arrival piece.Old = Old
piece_arrival piece.Full = NoSlot

-- first its number is judged, then its host is looked for, then it goes to reassembly
abbrev pub data_arrival : State → PacketFields → Arrival
data_arrival s p =
    if not (is_new (kept_in (map.get s.kept (flow_of p))) p.number) then Old
    else (if not (is_up s p.destination.host) then Undeliverable fate.Dead kind.Dead
    else piece_arrival (answer_of s.slots p))

-- a question about a new number ends that message: it never came. Else it is answered by the fate that is kept, if that is its
-- number's and the message doesn't wait. Whether the host is up is not asked
abbrev pub ask_arrival : Asked → Arrival
ask_arrival asked.Note = Undeliverable fate.Never kind.Never
ask_arrival asked.Silent = Old
ask_arrival asked.Rfnm = Replying kind.Rfnm
ask_arrival asked.Dead = Replying kind.Dead
ask_arrival asked.Never = Replying kind.Never

abbrev pub arrival_by : PacketKind → State → PacketFields → Arrival
arrival_by kind.Data s p = data_arrival s p
arrival_by kind.Rfnm s p = Answering answer.Rfnm
arrival_by kind.Dead s p = Answering answer.Dead
arrival_by kind.Ask s p = ask_arrival (asked_in (map.get s.kept (flow_of p)) p.number)
arrival_by kind.Never s p = Answering answer.NotTaken

abbrev pub arrival : State → PacketFields → Arrival
arrival s p = if target p == number s then arrival_by p.kind s p else Passing

-- ---- whether there is room for it

-- A packet that is dropped calls for no room. An answer that is made for the source is stored; a whole message is queued
abbrev pub arrival_has_room : Arrival → State → PacketFields → Bool
arrival_has_room Passing s p = has_room_to s (target p)
arrival_has_room Old s p = true
arrival_has_room (Undeliverable new told) s p = has_room_to s p.source.imp
arrival_has_room (Replying told) s p = has_room_to s p.source.imp
arrival_has_room Piece s p = true
arrival_has_room NoSlot s p = false
arrival_has_room (Whole text) s p = queue_has_room s p.destination.host
arrival_has_room Unmarked s p = true
arrival_has_room (Answering kind) s p = true

-- ---- what becomes of it

-- the number of a packet is its flow's last one, with this fate
abbrev pub with_number : Fate → PacketFields → State → State
with_number new p s = noted (flow_of p) p.number new s

-- a piece goes to reassembly
abbrev pub with_piece : PacketFields → State → State
with_piece p s = record s { slots = added s.slots p }

-- its flow's slot is cleared
abbrev pub without_slot : PacketFields → State → State
without_slot p s = record s { slots = without s.slots (flow_of p) }

abbrev pub arrived : Arrival → PacketFields → State → State
arrived Passing p s = stored p s
arrived Old p s = s
arrived (Undeliverable new told) p s = stored (answer_packet told (flow_of p) p.number) (with_number new p (without_slot p s))
arrived (Replying told) p s = stored (answer_packet told (flow_of p) p.number) s
arrived Piece p s = with_piece p s
arrived NoSlot p s = s
arrived (Whole text) p s = message_queued (record { flow = flow_of p; number = p.number; text = text }) (with_number fate.Waits p (with_piece p s))
arrived Unmarked p s = with_number fate.Never p (with_piece p s)
arrived (Answering kind) p s = freed kind (flow_of p) p.number s

-- ---- a frame

-- the line's end took the frame: acknowledgement bits freed channels, and the next bit is expected
abbrev pub frame_taken : ℕ → Frame → State → State
frame_taken k f s = with_port s k (record (port_at s.ports k) { line = state_after (port_at s.ports k).line f })

-- the acknowledgement that goes back at once, before the pump
abbrev pub acknowledged : ℕ → State → List Outgoing
acknowledged k s = record { port = k; frame = acknowledgement (port_at s.ports k).line } ∷ []

-- the neighbour's distances are in place of those heard before
abbrev pub vector_heard : ℕ → List ℕ → State → State
vector_heard k distances s = record s { routes = hears s.routes k distances }

-- nothing changes: the end of the line is down, or the frame counts as lost
abbrev pub ignored : State → ImpTurn
ignored s = record { state = s; frames = [] }

-- Room is asked for before the frame's acknowledgement bits are taken. Without room the frame counts as lost: it will come again
abbrev pub fresh : ℕ → Frame → PacketFields → State → ImpTurn
fresh k f p s =
    if arrival_has_room (arrival s p) s p
    then pump (acknowledged k (frame_taken k f s)) (arrived (arrival s p) p (frame_taken k f s))
    else ignored s

-- a repeat is acknowledged again; other frames are not acknowledged. (No frame is refused: each channel that it can name is in use)
abbrev pub taken_frame : Result Received ChannelFault → ℕ → Frame → State → ImpTurn
taken_frame (Ok (received.Fresh p)) k f s = fresh k f p s
taken_frame (Ok received.Repeat) k f s = pump (acknowledged k (frame_taken k f s)) (frame_taken k f s)
taken_frame (Ok received.AckOnly) k f s = pump [] (frame_taken k f s)
taken_frame (Ok (received.Routes distances)) k f s = pump [] (vector_heard k distances (frame_taken k f s))
taken_frame (Err fault) k f s = ignored s

abbrev pub from_line_refusal : State → ℕ → Option CarrierFault
from_line_refusal s k = if nat_lt k (length s.ports) then None else Some fault.NoSuch

-- a frame at an end that is down is ignored
abbrev pub from_line : State → ℕ → Frame → ImpTurn
from_line s k f = if (port_at s.ports k).up then taken_frame (answer_to (port_at s.ports k).line f) k f s else ignored s
