use Rattle.book_judge.proofs.Common.{arith, length, SentAt}
use Rattle.book_judge.proofs.Elements.{first_all, first_more, when_false, when_true}
use Rattle.book_judge.proofs.sent.unsent_at.Goals as goal

pub loop-place-init : goal.loop-place-init
loop-place-init c = λ log arrive i less. absurd (omega (arith, less))

pub returns-then-not-is_sent : goal.returns-then-not-is_sent
returns-then-not-is_sent c = λ log arrive. (
  c.loop-place-test.true,
  c.loop-place.invariant log arrive,
  when_false _ _ c.is_sent.result (c.is_sent.ensures log arrive) c.if-not-is_sent.true,
)

pub loop-place-preserved : goal.loop-place-preserved
loop-place-preserved c = λ log arrive.
    first_more (SentAt log c.args.starts.now c.args.names.now c.args.lives.now) c.loop-place.place
    (c.loop-place.invariant log arrive)
    (when_true _ _ c.is_sent.result (c.is_sent.ensures log arrive) c.if-not-is_sent.false)

pub returns : goal.returns
returns c = λ log arrive.
    first_all (SentAt log c.args.starts.now c.args.names.now c.args.lives.now) c.loop-place.place
    (length c.args.lives.now) (omega (arith, c.loop-place-test.false)) (c.loop-place.invariant log arrive)
