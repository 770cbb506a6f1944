-- What an IMP holds of messages, and what a turn leaves in it and puts on lines.
use Rattle.std.specs.Prelude.{List, ◌++◌}
use Rattle.std.specs.List.{flat_map}
use Rattle.packetiser.specs.PacketFields.{PacketFields}
use Rattle.packetiser.specs.Slots as slots
use Rattle.imp_channel.specs.Holding as channels
use Rattle.imp_node.specs.declared.outgoing.Outgoing.{Outgoing}
use Rattle.imp_node.specs.declared.port.Port.{Port}
use Rattle.imp_node.specs.declared.waiting.Message.{Message}
use Rattle.imp_node.specs.State.{State, ImpTurn}

-- ---- as lists

-- the packets in the channels of all ports
abbrev pub packets_in_channels : List Port → List PacketFields
packets_in_channels ports = flat_map (λ port. channels.packets_in port.line.sending) ports

-- all packets of an IMP: in its store, in channels and in slots
abbrev pub packets : State → List PacketFields
packets s = s.store ++ (packets_in_channels s.ports ++ slots.packets_in s.slots)

-- all messages in queues
abbrev pub messages : State → List Message
messages s = flat_map (λ h. h.queue) s.hosts

-- the packets that frames carry
abbrev pub packets_on : List Outgoing → List PacketFields
packets_on frames = flat_map (λ out. channels.carried_by out.frame.content) frames

-- all packets after a turn: in the IMP and on lines
abbrev pub turn_packets : ImpTurn → List PacketFields
turn_packets turn = packets turn.state ++ packets_on turn.frames
