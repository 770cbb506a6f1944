use Rattle.book_judge.proofs.Common.{length, arith, ClosedAt}
use Rattle.book_judge.proofs.Elements.{first_all, first_more, when_false, when_true}
use Rattle.book_judge.proofs.closes.lost_at.Goals as goal

pub returns-then-not-is_whole : goal.returns-then-not-is_whole
returns-then-not-is_whole c = (
  c.loop-place-test.true,
  c.loop-place.invariant,
  when_false _ _ c.is_whole.result c.is_whole.ensures c.if-not-is_whole.true,
)

pub loop-place-preserved : goal.loop-place-preserved
loop-place-preserved c = first_more (ClosedAt c.args.names.now c.args.lives.now c.args.handed.now c.args.fates.now) c.loop-place.place c.loop-place.invariant
    (when_true _ _ c.is_whole.result c.is_whole.ensures c.if-not-is_whole.false)

pub returns : goal.returns
returns c = first_all (ClosedAt c.args.names.now c.args.lives.now c.args.handed.now c.args.fates.now) c.loop-place.place (length c.args.lives.now) (omega (arith, c.loop-place-test.false))
    c.loop-place.invariant
