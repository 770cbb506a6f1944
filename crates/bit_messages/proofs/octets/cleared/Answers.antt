use Rattle.bit_messages.proofs.ShiftLemmas.{cleared_bits}
use Rattle.bit_messages.proofs.octets.cleared.Goals as goal

pub returns : goal.returns
returns c = cleared_bits c.args.octet c.args.used c.ranges.octet.fits c.requires.some c.requires.few
