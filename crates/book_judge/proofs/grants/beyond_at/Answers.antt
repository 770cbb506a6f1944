use Rattle.book_judge.proofs.Common.{arith, length}
use Rattle.book_judge.specs.Inside.Allocations.{WithinAt}
use Rattle.book_judge.proofs.Elements.{first_all, first_more, when_false, when_true}
use Rattle.book_judge.proofs.Crossed.Granted.{beyond_here, within_here}
use Rattle.book_judge.proofs.grants.beyond_at.Goals as goal

pub returns-then-not-is_within : goal.returns-then-not-is_within
returns-then-not-is_within c = λ log a all. (
  c.loop-place-test.true,
  c.loop-place.invariant log a all,
  λ within. when_false _ _ c.is_within.result (c.is_within.ensures log a all) c.if-not-is_within.true
      (beyond_here log c.args.starts.now c.args.lives.now c.loop-place.place c.index-lives-place.result c.start_at.result
      c.loop-place-test.true c.index-lives-place.is c.start_at.ensures within),
)

pub loop-place-preserved : goal.loop-place-preserved
loop-place-preserved c = λ log a all.
    first_more (WithinAt log c.args.starts.now c.args.lives.now) c.loop-place.place (c.loop-place.invariant log a all)
    (within_here log c.args.starts.now c.args.lives.now c.loop-place.place c.index-lives-place.result c.start_at.result
    c.loop-place-test.true c.index-lives-place.is c.start_at.ensures (when_true _ _ c.is_within.result (c.is_within.ensures log a all) c.if-not-is_within.false))

pub returns : goal.returns
returns c = λ log a all.
    first_all (WithinAt log c.args.starts.now c.args.lives.now) c.loop-place.place (length c.args.lives.now)
    (omega (arith, c.loop-place-test.false)) (c.loop-place.invariant log a all)
