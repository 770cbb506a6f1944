use Rattle.std.proofs.Common.{◌≡◌, ◌∙◌, ap, sym, subst, Ok}
use Rattle.packetiser.specs.PacketFields.{PacketFields}
use Rattle.packetiser.specs.Format as packets
use Rattle.imp_channel.proofs.FrameLemmas.{packet_again, routes_again}
use Rattle.imp_channel.proofs.frame.write_rest.Goals as goal

pub returns-in_ok-extend_from_slice-in-Packet-clause-again : goal.returns-in_ok-extend_from_slice-in-Packet-clause-again
returns-in_ok-extend_from_slice-in-Packet-clause-again c =
    let P : PacketFields → Type 0 = λ p. packets.read_of (packets.spelling p) ≡ Ok p in
    rw c.in-Packet.is
    (packet_again c.in-Packet.carried c.octet.ensures.in_range
    (subst P c.packet.ensures (ap packets.read_of (sym c.in_ok-write-in-Packet.ensures.spelled) ∙ c.in_ok-write-in-Packet.ensures.again)))

pub returns-in_ok-extend_from_slice-in-Routes-clause-again : goal.returns-in_ok-extend_from_slice-in-Routes-clause-again
returns-in_ok-extend_from_slice-in-Routes-clause-again c = rw c.in-Routes.is (routes_again c.in-Routes.vector c.distances.ensures.a_vector c.distances.ensures.tested)
