use Rattle.std.proofs.Common.{length}
use Rattle.packetiser.proofs.reassembly.+is_whole_from.Given as goal

abbrev pub decreases-is_whole_from : goal.decreases-is_whole_from
decreases-is_whole_from l = length l.pieces.now
