use Rattle.subnet.proofs.Calls.Settled.{one_more}
use Rattle.subnet.proofs.parts.Parts.all_are_still.Goals as goal

pub loop-line-preserved : goal.loop-line-preserved
loop-line-preserved c = one_more c.args.self.now c.loop-line.line c.is_still.result c.if-not-is_still.false c.loop-line.invariant c.is_still.ensures
