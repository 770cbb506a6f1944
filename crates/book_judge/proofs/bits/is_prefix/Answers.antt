use Rattle.std.proofs.Common.{arith}
use Rattle.book_judge.proofs.FirstLives.Fed.{prefix_more, prefix_whole}
use Rattle.book_judge.proofs.bits.is_prefix.Goals as goal

pub loop-i-preserved : goal.loop-i-preserved
loop-i-preserved c = prefix_more c.args.bits.now c.args.other.now c.loop-i.i c.get.result c.get-in-loop-i.result c.same_found.result c.get.ensures
    c.get-in-loop-i.ensures c.same_found.ensures c.if-not-same_found.false c.loop-i.invariant

pub returns : goal.returns
returns c = prefix_whole c.args.bits.now c.args.other.now c.loop-i.i (omega (arith, c.loop-i-test.false, c.len-i-end.ensures)) c.loop-i.invariant
