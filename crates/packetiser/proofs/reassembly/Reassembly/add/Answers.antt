use Rattle.std.proofs.Common.{rules, subst}
use Rattle.packetiser.specs.PacketFields.{IsPacket}
use Rattle.packetiser.specs.declared.reassembly.Added.TheVariants as answer
use Rattle.packetiser.proofs.Holding.{answer_sized}
use Rattle.packetiser.proofs.reassembly.Reassembly.add.Goals as goal

pub returns-in_ok-body-in-Whole-clause-size : goal.returns-in_ok-body-in-Whole-clause-size
returns-in_ok-body-in-Whole-clause-size c = answer_sized (answer.Whole c.in_ok-body-in-Whole.body) c.self.inside.slots c.args.packet c.self.invariant (subst IsPacket c.packet.view_is c.packet.invariant) c.requires (search rules)
