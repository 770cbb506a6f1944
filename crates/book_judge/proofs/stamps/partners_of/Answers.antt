use Rattle.std.proofs.Common.{reverse, arith}
use Rattle.book_judge.proofs.Identities.Asked.{all_asked, named_init, named_next, unstamped_here}
use Rattle.book_judge.proofs.stamps.partners_of.Goals as goal

pub loop-place-init : goal.loop-place-init
loop-place-init c = (named_init c.new-names.result.items c.args.lives.now (reverse c.args.log.now) c.new-names.ensures.items, omega arith)

pub returns-in_default : goal.returns-in_default
returns-in_default c = unstamped_here c.loop-place.place c.loop-place.names.items c.args.lives.now (reverse c.args.log.now) c.index-lives-place.result
    c.loop-place-test.true c.index-lives-place.is c.in_default.ensures c.loop-place.invariant.0

pub loop-place-preserved : goal.loop-place-preserved
loop-place-preserved c = (
  named_next c.loop-place.place c.loop-place.names.items c.push.new.self.items c.args.lives.now (reverse c.args.log.now) c.index-lives-place.result
      c.in-Some.name c.loop-place-test.true c.index-lives-place.is c.in_ok-push.ensures.items c.in-Some.ensures c.loop-place.invariant.0,
  omega (arith, c.loop-place-test.true),
)

pub returns : goal.returns
returns c = all_asked c.loop-place.place c.loop-place.names.items c.args.lives.now (reverse c.args.log.now) c.loop-place-test.false c.loop-place.invariant.1 c.loop-place.invariant.0
