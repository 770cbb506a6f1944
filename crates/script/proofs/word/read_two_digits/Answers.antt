use Rattle.std.proofs.Common.{arith}
use Rattle.script.proofs.Short.{two_read, no_two}
use Rattle.script.proofs.word.read_two_digits.Goals as goal
use Rattle.script.proofs.word.read_two_digits.Goals.{then-tens-lt49-via-then-tens-lt49, then-tens-lt49-via-else-tens-lt49+then-tens-gt57, then-tens-lt49-via-else-tens-lt49+else-tens-gt57+then-ones-lt48, then-tens-lt49-via-else-tens-lt49+else-tens-gt57+else-ones-lt48+then-ones-gt57}

pub returns-then-tens-lt49 : goal.returns-then-tens-lt49
returns-then-tens-lt49 c = no_two c.args.tens c.args.ones (λ tens ones. elim c.then-tens-lt49.branch [
  | then-tens-lt49-via-then-tens-lt49 w ↦ absurd (omega (arith, tens, w.if-tens-lt49.true))
  | then-tens-lt49-via-else-tens-lt49+then-tens-gt57 w ↦ absurd (omega (arith, tens, w.if-tens-gt57.true))
  | then-tens-lt49-via-else-tens-lt49+else-tens-gt57+then-ones-lt48 w ↦ absurd (omega (arith, ones, w.if-ones-lt48.true))
  | then-tens-lt49-via-else-tens-lt49+else-tens-gt57+else-ones-lt48+then-ones-gt57 w ↦ absurd (omega (arith, ones, w.if-ones-gt57.true))
])

pub returns : goal.returns
returns c = (
  two_read c.args.tens c.args.ones (omega (arith, c.if-tens-lt49.false), omega (arith, c.if-tens-gt57.false)) (omega (arith, c.if-ones-lt48.false), omega (arith, c.if-ones-gt57.false)),
  omega (arith, c.if-tens-gt57.false, c.if-ones-gt57.false),
)
