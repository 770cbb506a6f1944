use Rattle.std.proofs.Common.{sym}
use Rattle.host_pairs.proofs.HeldLemmas.{swept_none}
use Rattle.host_pairs.proofs.held.Ends.sweep.Goals as goal

pub returns-in-Nowhere-clause-ends : goal.returns-in-Nowhere-clause-ends
returns-in-Nowhere-clause-ends c = sym (swept_none _ (rw (← c.self.view_is) (rw c.in-Nowhere.is at c.self.invariant.ending)))
