-- What becomes of a frame that is delivered, by what the IMP makes of it.
use Rattle.std.specs.Prelude.{ℕ, Option, Some, None, Result, Ok, Err, if◌then◌else◌, slice_get}
use Rattle.std.specs.FinMap as map
use Rattle.interface.specs.declared.event.Direction.{Direction}
use Rattle.interface.specs.declared.event.NetEvent.TheVariants as net
use Rattle.script.specs.declared.event.RawEvent.{RawEvent}
use Rattle.script.specs.declared.event.RawEvent.TheVariants as event
use Rattle.packetiser.specs.PacketFields.{PacketFields, flow_of}
use Rattle.packetiser.specs.declared.packet.PacketKind.{PacketKind}
use Rattle.packetiser.specs.declared.packet.PacketKind.TheVariants as kind
use Rattle.imp_channel.specs.Line.{answer_to}
use Rattle.imp_channel.specs.declared.fault.ChannelFault.{ChannelFault}
use Rattle.imp_channel.specs.declared.frame.Frame.{Frame}
use Rattle.imp_channel.specs.declared.line.Received.{Received}
use Rattle.imp_channel.specs.declared.line.Received.TheVariants as received
use Rattle.link_table.specs.Flows.{release_in}
use Rattle.link_table.specs.declared.source.Release.{Release}
use Rattle.link_table.specs.declared.source.Release.TheVariants as release
use Rattle.imp_node.specs.Arrival.{Arrival, Passing, Old, Undeliverable, Replying, Piece, NoSlot, Whole, Unmarked, Answering, arrival, arrival_has_room}
use Rattle.imp_node.specs.State.{State, port_at}
use Rattle.subnet.specs.Net.{Net, far_end, frames_on, imp_at, port_of, wire_at}
use Rattle.trace.specs.declared.fate.Fate.{Fate}
use Rattle.trace.specs.declared.fate.Fate.TheVariants as fate

-- ---- a packet that was not given before

-- a message ends before it is whole, and its source is informed by a packet of this kind
abbrev pub ended_fate : PacketKind → Fate
ended_fate kind.Never = fate.Never
ended_fate kind.Data = fate.Dead
ended_fate kind.Rfnm = fate.Dead
ended_fate kind.Dead = fate.Dead
ended_fate kind.Ask = fate.Dead

-- an answer ends the outstanding message of its number, or changes nothing
abbrev pub release_fate : Release → Fate
release_fate release.Freed = fate.Answer
release_fate release.Stale = fate.Stale

-- what a packet is to the IMP that has room for it
abbrev pub arrival_fate : Arrival → State → PacketFields → Fate
arrival_fate Passing s p = fate.Passing
arrival_fate Old s p = fate.Old
arrival_fate (Undeliverable new told) s p = ended_fate told
arrival_fate (Replying told) s p = fate.Replied
arrival_fate Piece s p = fate.Piece
arrival_fate NoSlot s p = fate.NoRoom
arrival_fate (Whole text) s p = fate.Whole
arrival_fate Unmarked s p = fate.Unmarked
arrival_fate (Answering kind) s p = release_fate (release_in p.number (map.get s.sources (flow_of p)))

abbrev pub packet_fate : State → PacketFields → Fate
packet_fate s p = if arrival_has_room (arrival s p) s p then arrival_fate (arrival s p) s p else fate.NoRoom

-- ---- a frame

-- what the end of a line makes of it. (No frame is refused: each channel that it can name is in use)
abbrev pub received_fate : Result Received ChannelFault → State → Fate
received_fate (Ok (received.Fresh p)) s = packet_fate s p
received_fate (Ok received.Repeat) s = fate.Repeat
received_fate (Ok received.AckOnly) s = fate.Acks
received_fate (Ok (received.Routes distances)) s = fate.Distances
received_fate (Err e) s = fate.Repeat

-- at the end of a line, which may be down
abbrev pub end_fate : State → ℕ → Frame → Fate
end_fate s k f = if (port_at s.ports k).up then received_fate (answer_to (port_at s.ports k).line f) s else fate.EndDown

-- at an IMP, which may be down
abbrev pub imp_fate : Option State → ℕ → Frame → Fate
imp_fate None k f = fate.ImpDown
imp_fate (Some s) k f = end_fate s k f

abbrev pub frame_fate : Net → ℕ → Direction → Option Frame → Option Fate
frame_fate n l d None = None
frame_fate n l d (Some f) = Some (imp_fate (imp_at n.imps (far_end d (wire_at n.lines l))) (port_of n.lines (far_end d (wire_at n.lines l)) l) f)

-- an event that delivers a frame; any other has none
abbrev pub fate_of : Net → RawEvent → Option Fate
fate_of n (event.Net (net.Deliver l d k)) = frame_fate n l d (slice_get (frames_on d (wire_at n.lines l)) k)
fate_of n (event.Net e) = None
fate_of n (event.Out m) = None
fate_of n (event.Take h) = None
fate_of n (event.Calm rounds) = None
