use Rattle.std.proofs.Common.{arith}
use Rattle.book_judge.proofs.Elements.{when_false, when_true}
use Rattle.book_judge.proofs.Crossed.Numbered.{fewer_sent, more_sent, none_sent}
use Rattle.book_judge.proofs.sent.each_sent.Goals as goal

pub loop-number-init : goal.loop-number-init
loop-number-init c = (
  λ log arrive. none_sent log c.args.starts.now c.args.start c.args.asked.now c.args.life.now c.args.names.now c.args.lives.now c.args.start.before (omega arith),
  omega arith,
)

pub returns-then-not-was_sent : goal.returns-then-not-was_sent
returns-then-not-was_sent c = λ log arrive each.
    when_false _ _ c.was_sent.result (c.was_sent.ensures log arrive) c.if-not-was_sent.true
    (each c.loop-number.number c.loop-number.invariant.1 c.loop-number-test.true)

pub loop-number-preserved : goal.loop-number-preserved
loop-number-preserved c = (
  λ log arrive. more_sent log c.args.starts.now c.args.start c.args.asked.now c.args.life.now c.args.names.now c.args.lives.now
      c.loop-number.number (when_true _ _ c.was_sent.result (c.was_sent.ensures log arrive) c.if-not-was_sent.false)
      (c.loop-number.invariant.0 log arrive),
  (let low = c.loop-number.invariant.1 in omega (arith, low)),
)

pub returns : goal.returns
returns c = λ log arrive.
    fewer_sent log c.args.starts.now c.args.start c.args.asked.now c.args.life.now c.args.names.now c.args.lives.now
    c.loop-number.number c.args.past c.loop-number-test.false (c.loop-number.invariant.0 log arrive)
