use Rattle.std.proofs.Common.{arith}
use Rattle.book_judge.proofs.Crossed.Numbered.{all_starts, starts_none}
use Rattle.book_judge.proofs.starts.starts_of.Goals as goal

pub loop-place-init : goal.loop-place-init
loop-place-init c = (starts_none c.new-starts.result.items c.args.lives.now c.args.log.now c.new-starts.ensures.items, omega arith)

pub returns : goal.returns
returns c =
    all_starts c.loop-place.place c.loop-place.starts.items c.args.lives.now c.args.log.now c.loop-place-test.false
    c.loop-place.invariant.1 c.loop-place.invariant.0
