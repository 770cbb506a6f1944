use Rattle.packetiser.proofs.Slots.{without_table}
use Rattle.packetiser.proofs.reassembly.Reassembly.discard.Goals as goal

pub invariant_of-self : goal.invariant_of-self
invariant_of-self c = rw c.clear.ensures (without_table c.self.inside.slots c.args.flow c.self.invariant)
