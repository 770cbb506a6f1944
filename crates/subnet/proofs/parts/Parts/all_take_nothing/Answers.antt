use Rattle.subnet.proofs.Calls.Restful.{one_more}
use Rattle.subnet.proofs.parts.Parts.all_take_nothing.Goals as goal

pub loop-at-preserved : goal.loop-at-preserved
loop-at-preserved c = one_more c.args.self.now c.args.hosts.now c.loop-at.at c.takes_nothing_at.result c.if-not-takes_nothing_at.false c.loop-at.invariant c.takes_nothing_at.ensures
