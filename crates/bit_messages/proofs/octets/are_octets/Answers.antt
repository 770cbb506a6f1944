use Rattle.bit_messages.proofs.PackedLemmas.{all_fit}
use Rattle.bit_messages.proofs.octets.are_octets.Goals as goal

pub returns : goal.returns
returns c = all_fit c.args.octets.now c.type_inv.octets
