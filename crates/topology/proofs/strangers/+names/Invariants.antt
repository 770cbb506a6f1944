use Rattle.std.proofs.Common.{length}
use Rattle.topology.proofs.strangers.+names.Given as goal

abbrev pub decreases-names : goal.decreases-names
decreases-names l = length l.values.now
