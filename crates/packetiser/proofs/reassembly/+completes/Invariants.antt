use Rattle.std.proofs.Common.{length}
use Rattle.packetiser.proofs.reassembly.+completes.Given as goal

abbrev pub decreases-completes : goal.decreases-completes
decreases-completes l = length l.pieces.now
