use Rattle.bit_messages.proofs.ShiftLemmas.{filled_bits}
use Rattle.bit_messages.proofs.octets.filled.Goals as goal

pub returns : goal.returns
returns c = filled_bits c.args.octet c.args.next c.args.used c.ranges.octet.fits c.ranges.next.fits c.requires.some c.requires.few c.requires.zeros
