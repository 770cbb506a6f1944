use Rattle.leader1822.proofs.Common.{sym, subst, IsKept}
use Rattle.leader1822.proofs.Index.{opening_kept}
use Rattle.leader1822.proofs.plain_boxes.PlainBoxes.new.Goals as goal

pub invariant_of-result : goal.invariant_of-result
invariant_of-result c = subst IsKept (sym c.new.ensures) (opening_kept c.args.hosts.items c.requires)
