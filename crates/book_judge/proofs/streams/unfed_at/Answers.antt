use Rattle.book_judge.proofs.Common.{length, arith, FedAt}
use Rattle.book_judge.proofs.Elements.{first_all, first_more, when_false, when_true}
use Rattle.book_judge.proofs.FirstLives.Fed.{fed_here, unfed_here, unsourced_here}
use Rattle.book_judge.proofs.streams.unfed_at.Goals as goal

pub returns-then-not-is_sourced : goal.returns-then-not-is_sourced
returns-then-not-is_sourced c = (
  c.loop-place-test.true,
  c.loop-place.invariant,
  λ fed. when_false _ _ c.is_sourced.result c.is_sourced.ensures c.if-not-is_sourced.true
      (unsourced_here c.args.names.now c.args.lives.now c.args.handed.now c.loop-place.place c.index-names-place.result c.index-lives-place.result
      c.loop-place-test.true c.requires.counts c.index-names-place.is c.index-lives-place.is fed),
)

pub returns-then-not-is_handed : goal.returns-then-not-is_handed
returns-then-not-is_handed c = (
  c.loop-place-test.true,
  c.loop-place.invariant,
  λ fed. when_false _ _ c.is_handed.result c.is_handed.ensures c.if-not-is_handed.true
      (unfed_here c.args.names.now c.args.lives.now c.args.handed.now c.loop-place.place c.index-names-place.result c.index-lives-place.result
      c.index-handed-place.result c.loop-place-test.true c.requires.counts c.index-names-place.is c.index-lives-place.is c.index-handed-place.is fed).1,
)

pub loop-place-preserved : goal.loop-place-preserved
loop-place-preserved c = first_more (FedAt c.args.names.now c.args.lives.now c.args.handed.now) c.loop-place.place c.loop-place.invariant
    (fed_here c.args.names.now c.args.lives.now c.args.handed.now c.loop-place.place c.index-names-place.result c.index-lives-place.result
    c.index-handed-place.result c.loop-place-test.true c.requires.counts c.index-names-place.is c.index-lives-place.is c.index-handed-place.is
    (when_true _ _ c.is_sourced.result c.is_sourced.ensures c.if-not-is_sourced.false) (when_true _ _ c.is_handed.result c.is_handed.ensures c.if-not-is_handed.false))

pub returns : goal.returns
returns c = first_all (FedAt c.args.names.now c.args.lives.now c.args.handed.now) c.loop-place.place (length c.args.lives.now) (omega (arith, c.loop-place-test.false))
    c.loop-place.invariant
