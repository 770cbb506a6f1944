-- Waiting packets go out on lines (Heart et al., SJCC 1970, store and forward).
use Rattle.std.specs.Prelude.{ℕ, List, [], ◌∷◌, ◌++◌, Option, Some, None, slice_set, if◌then◌else◌}
use Rattle.packetiser.specs.PacketFields.{PacketFields}
use Rattle.packetiser.specs.declared.packet.PacketKind.{PacketKind}
use Rattle.packetiser.specs.declared.packet.PacketKind.TheVariants as kind
use Rattle.imp_channel.specs.Line.{End, submitted}
use Rattle.imp_channel.specs.declared.frame.Frame.{Frame}
use Rattle.routing.specs.RouteTable.{Table, next_of}
use Rattle.imp_node.specs.declared.outgoing.Outgoing.{Outgoing}
use Rattle.imp_node.specs.declared.port.Port.{Port}
use Rattle.imp_node.specs.Room.{has_route}
use Rattle.imp_node.specs.State.{State, ImpTurn, port_at}

-- the IMP that a packet is for: a piece and a question travel to their message's destination, an answer back to the source
abbrev pub target_by : PacketKind → PacketFields → ℕ
target_by kind.Data p = p.destination.imp
target_by kind.Rfnm p = p.source.imp
target_by kind.Dead p = p.source.imp
target_by kind.Ask p = p.destination.imp
target_by kind.Never p = p.source.imp

abbrev pub target : PacketFields → ℕ
target p = target_by p.kind p

-- A packet is stored for its route after those that wait, or dropped where no live route is
abbrev pub stored : PacketFields → State → State
stored p s = record s { store = s.store ++ (if has_route s (target p) then p ∷ [] else []) }

-- ---- the pump

-- what became of waiting packets: the ports after it, those that still wait, and the frames of those that went
pub record Pumped : Type 0 where
  pub ports : List Port
  pub waits : List PacketFields
  pub frames : List Outgoing

-- a packet goes into the lowest free channel of its route's line, and its frame on the line; without a free channel it waits
abbrev pub sent_on : List Port → ℕ → PacketFields → Option (End × Frame) → Pumped
sent_on ports k p None = record { ports = ports; waits = p ∷ []; frames = [] }
sent_on ports k p (Some (end, frame)) = record {
  ports = slice_set ports k (record (port_at ports k) { line = end });
  waits = [];
  frames = record { port = k; frame = frame } ∷ [];
}

-- without a live route it is dropped
abbrev pub packet_sent : List Port → PacketFields → Option ℕ → Pumped
packet_sent ports p None = record { ports = ports; waits = []; frames = [] }
packet_sent ports p (Some k) = sent_on ports k p (submitted (port_at ports k).line p)

abbrev pub and_then : Pumped → Pumped → Pumped
and_then first rest = record { ports = rest.ports; waits = first.waits ++ rest.waits; frames = first.frames ++ rest.frames }

-- each waiting packet in order
abbrev pub pumped : Table → List Port → List PacketFields → Pumped
pumped routes ports [] = record { ports = ports; waits = []; frames = [] }
pumped routes ports (p ∷ ps) =
    and_then (packet_sent ports p (next_of routes (target p))) (pumped routes (packet_sent ports p (next_of routes (target p))).ports ps)

-- every call of an IMP ends with the pump. The frames that the call itself puts on lines go first
abbrev pub pump : List Outgoing → State → ImpTurn
pump frames s = record {
  state = record s { ports = (pumped s.routes s.ports s.store).ports; store = (pumped s.routes s.ports s.store).waits };
  frames = frames ++ (pumped s.routes s.ports s.store).frames;
}
