use Rattle.std.proofs.Common.{sym}
use Rattle.host_pairs.proofs.HeldLemmas.{closed_none}
use Rattle.host_pairs.proofs.held.Ends.close.Goals as goal

pub returns-in-Nowhere : goal.returns-in-Nowhere
returns-in-Nowhere c = sym (closed_none c.args.busy.now _ (rw (← c.self.view_is) (rw c.in-Nowhere.is at c.self.invariant.closing)))
