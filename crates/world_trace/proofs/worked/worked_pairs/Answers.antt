use Rattle.std.proofs.Common.{refl}
use Rattle.std.specs.Fmt.{digits}
use Rattle.hex.specs.Hex.{encode_with}
use Rattle.bit_messages.specs.Octets.{octets_of}
use Rattle.world_trace.proofs.worked.worked_pairs.Goals as goal

pub returns : goal.returns
unfolding digits encode_with octets_of
returns c = record { pair = refl; commands = refl; error = refl; receiver = refl; refused = refl }
