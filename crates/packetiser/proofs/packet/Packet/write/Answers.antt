use Rattle.std.proofs.Common.{ap, subst, rules, ◌≡◌, ◌∙◌}
use Rattle.packetiser.specs.PacketFields.{IsPacket}
use Rattle.packetiser.specs.Format.{read_of, spelling}
use Rattle.packetiser.proofs.Packets.{read_again}
use Rattle.packetiser.proofs.packet.Packet.write.Goals as goal

pub returns-clause-again : goal.returns-clause-again
returns-clause-again c =
    let spelled : c.extend_from_slice-2.new.self.items ≡ spelling c.args.self.now = search rules in
    ap read_of spelled ∙ read_again c.args.self.now (subst IsPacket c.self.view_is c.self.invariant)
