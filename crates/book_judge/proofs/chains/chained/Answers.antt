use Rattle.std.proofs.Common.{arith}
use Rattle.book_judge.proofs.Identities.Walks.{all_chained, chain_init, chain_next}
use Rattle.book_judge.proofs.chains.chained.Goals as goal

pub loop-place-init : goal.loop-place-init
loop-place-init c = (chain_init c.new-last.result c.new-before.result.items c.args.lives.now c.new-last.ensures c.new-before.ensures.items, omega arith)

pub loop-place-preserved : goal.loop-place-preserved
loop-place-preserved c = (
  chain_next c.loop-place.place c.key-key.result c.loop-place.last c.set.new.self c.loop-place.before.items c.push.new.self.items
      c.args.lives.now c.index-lives-place.result c.own_of.result c.get.result c.loop-place-test.true c.index-lives-place.is c.own_of.ensures c.key-key.ensures
      c.get.ensures c.in_ok-push.ensures.items c.in_ok-set.ensures c.loop-place.invariant.0,
  omega (arith, c.loop-place-test.true),
)

pub returns : goal.returns
returns c = all_chained c.loop-place.place c.loop-place.last c.loop-place.before.items c.args.lives.now c.loop-place-test.false c.loop-place.invariant.1 c.loop-place.invariant.0
