use Rattle.std.proofs.Common.{◌*◌}
use Rattle.bit_messages.specs.Octets.{bits_of}
use Rattle.bit_messages.proofs.BodyLemmas.{HasZerosFrom}
use Rattle.bit_messages.proofs.octets.last_one.Given as goal

-- the octets from here on are zero
abbrev pub invariant-octets : goal.invariant-octets
invariant-octets l = HasZerosFrom (8 * l.end) (bits_of l.octets)

abbrev pub decreases-octets : goal.decreases-octets
decreases-octets l = l.end
