use Rattle.std.proofs.Common.{◌≡◌, map}
use Rattle.packetiser.specs.Pieces.{piece_packet, places}
use Rattle.bit_messages.specs.Body.{body}
use Rattle.packetiser.proofs.cutting.cut.Given as goal

abbrev pub invariant-loop-place : goal.invariant-loop-place
invariant-loop-place l = l.packets.items ≡ map (piece_packet l.message.flow l.number (body l.message.text)) (places l.place)
