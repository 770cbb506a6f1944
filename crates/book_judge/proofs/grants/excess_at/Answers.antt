use Rattle.book_judge.proofs.Common.{length, arith, GrantedAt}
use Rattle.book_judge.proofs.Elements.{first_all, first_more, when_false, when_true}
use Rattle.book_judge.proofs.FirstLives.Fed.{excess_here, granted_here}
use Rattle.book_judge.proofs.FirstLives.Shown.{earlier_all}
use Rattle.book_judge.proofs.grants.excess_at.Goals as goal

pub has_granted-requires-clause-earlier : goal.has_granted-requires-clause-earlier
has_granted-requires-clause-earlier c = earlier_all (GrantedAt c.args.names.now c.args.lives.now) c.args.lives.now c.args.before.now c.args.last.now c.loop-place.place
    c.index-lives-place.result c.found_at-earlier.result c.loop-place-test.true c.index-lives-place.is c.requires.chained c.found_at-earlier.ensures c.loop-place.invariant

pub returns-then-not-has_granted : goal.returns-then-not-has_granted
returns-then-not-has_granted c = (
  c.loop-place-test.true,
  c.loop-place.invariant,
  λ granted. when_false _ _ c.has_granted.result c.has_granted.ensures c.if-not-has_granted.true
      (excess_here c.args.names.now c.args.lives.now c.loop-place.place c.index-names-place.result c.index-lives-place.result
      c.loop-place-test.true c.requires.counts c.index-names-place.is c.index-lives-place.is granted),
)

pub loop-place-preserved : goal.loop-place-preserved
loop-place-preserved c = first_more (GrantedAt c.args.names.now c.args.lives.now) c.loop-place.place c.loop-place.invariant
    (granted_here c.args.names.now c.args.lives.now c.loop-place.place c.index-names-place.result c.index-lives-place.result
    c.loop-place-test.true c.requires.counts c.index-names-place.is c.index-lives-place.is (when_true _ _ c.has_granted.result c.has_granted.ensures c.if-not-has_granted.false))

pub returns : goal.returns
returns c = first_all (GrantedAt c.args.names.now c.args.lives.now) c.loop-place.place (length c.args.lives.now) (omega (arith, c.loop-place-test.false))
    c.loop-place.invariant
