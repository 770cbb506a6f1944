-- Steps of a frame's coming in that the calls are made of.
use Rattle.std.specs.Prelude.{ℕ, Bool, true, false, not, List, Result, Ok, Err, if◌then◌else◌}
use Rattle.bit_messages.specs.Body.{has_mark, text_of}
use Rattle.interface.specs.declared.address.Flow.{Flow}
use Rattle.link_table.specs.declared.destination.Asked.{Asked}
use Rattle.link_table.specs.declared.destination.Asked.TheVariants as asked
use Rattle.link_table.specs.declared.destination.Fate.{Fate}
use Rattle.link_table.specs.declared.destination.Fate.TheVariants as fate
use Rattle.packetiser.specs.PacketFields.{PacketFields}
use Rattle.packetiser.specs.Slots.{without}
use Rattle.packetiser.specs.declared.packet.PacketKind.{PacketKind}
use Rattle.packetiser.specs.declared.packet.PacketKind.TheVariants as kind
use Rattle.imp_channel.specs.declared.fault.ChannelFault.{ChannelFault}
use Rattle.imp_channel.specs.declared.line.Received.{Received}
use Rattle.imp_channel.specs.declared.line.Received.TheVariants as received
use Rattle.imp_channel.specs.Line.{all_acknowledged}
use Rattle.imp_node.specs.State.{State, port_at, with_port}
use Rattle.imp_node.specs.Room.{queue_has_room}
use Rattle.imp_node.specs.Flows.{noted, message_queued, answer_packet}
use Rattle.imp_node.specs.Pump.{stored}
use Rattle.imp_node.specs.Arrival.{Arrival, Passing, Old, Undeliverable, Replying, Piece, NoSlot, Whole, Unmarked, Answering, arrival, arrival_has_room}

-- acknowledgement bits came in at a port
abbrev pub with_acks : ℕ → List Bool → State → State
with_acks k acks s = with_port s k (record (port_at s.ports k) { line = record (port_at s.ports k).line { sending = all_acknowledged acks (port_at s.ports k).line.sending } })

-- a frame counts as lost where it brings a fresh packet for which there is no room
abbrev pub lost_by : Result Received ChannelFault → State → Bool
lost_by (Ok (received.Fresh p)) s = not (arrival_has_room (arrival s p) s p)
lost_by (Ok received.Repeat) s = false
lost_by (Ok received.AckOnly) s = false
lost_by (Ok (received.Routes distances)) s = false
lost_by (Err fault) s = false

-- a message that a packet makes whole has a place in its host's queue
abbrev pub has_place : Arrival → State → PacketFields → Bool
has_place (Whole text) s p = queue_has_room s p.destination.host
has_place Passing s p = true
has_place Old s p = true
has_place (Undeliverable new told) s p = true
has_place (Replying told) s p = true
has_place Piece s p = true
has_place NoSlot s p = true
has_place Unmarked s p = true
has_place (Answering kind) s p = true

-- a new message ends before it is whole
abbrev pub turned_away : Fate → PacketKind → Flow → ℕ → State → State
turned_away new told f n s = stored (answer_packet told f n) (noted f n new (record s { slots = without s.slots f }))

-- a question came, and this is what it comes to
abbrev pub asked_about : Asked → Flow → ℕ → State → State
asked_about asked.Note f n s = turned_away fate.Never kind.Never f n s
asked_about asked.Silent f n s = s
asked_about asked.Rfnm f n s = stored (answer_packet kind.Rfnm f n) s
asked_about asked.Dead f n s = stored (answer_packet kind.Dead f n) s
asked_about asked.Never f n s = stored (answer_packet kind.Never f n) s

-- a body is whole
abbrev pub completed : Flow → ℕ → List Bool → State → State
completed f n body s =
    if has_mark body then message_queued (record { flow = f; number = n; text = text_of body }) (noted f n fate.Waits s) else noted f n fate.Never s
