use Rattle.std.proofs.Common.{length}
use Rattle.topology.proofs.strangers.+all_foreign.Given as goal

abbrev pub decreases-all_foreign : goal.decreases-all_foreign
decreases-all_foreign l = length l.imps.now
