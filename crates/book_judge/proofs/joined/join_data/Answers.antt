use Rattle.std.proofs.Common.{arith}
use Rattle.book_judge.proofs.Crossed.Streamed.{all_joined}
use Rattle.book_judge.proofs.joined.join_data.Goals as goal

pub loop-place-init : goal.loop-place-init
loop-place-init c = c.new-joined.ensures c.args.comes

pub returns : goal.returns
returns c = all_joined c.args.comes c.args.log.now c.loop-place.place c.loop-place.joined (omega (arith, c.loop-place-test.false)) c.loop-place.invariant
