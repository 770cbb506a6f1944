use Rattle.std.proofs.Common.{length}
use Rattle.topology.proofs.strangers.+is_foreign.Given as goal

abbrev pub decreases-is_foreign : goal.decreases-is_foreign
decreases-is_foreign l = length l.imps.now
