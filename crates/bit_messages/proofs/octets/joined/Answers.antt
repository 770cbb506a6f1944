use Rattle.bit_messages.proofs.ShiftLemmas.{joined_bits}
use Rattle.bit_messages.proofs.octets.joined.Goals as goal

pub returns : goal.returns
returns c = joined_bits c.args.first c.args.second c.args.by c.ranges.first.fits c.ranges.second.fits c.requires.some c.requires.few
