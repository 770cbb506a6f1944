use Rattle.std.proofs.Common.{arith}
use Rattle.script.proofs.Short.{digit_read, no_digit}
use Rattle.script.proofs.word.read_digit.Goals as goal
use Rattle.script.proofs.word.read_digit.Goals.{then-digit-lt48-via-then-digit-lt48, then-digit-lt48-via-else-digit-lt48+then-digit-gt57}

pub returns-then-digit-lt48-clause-octet : goal.returns-then-digit-lt48-clause-octet
returns-then-digit-lt48-clause-octet c = λ n small. no_digit c.args.digit (λ range. elim c.then-digit-lt48.branch [
  | then-digit-lt48-via-then-digit-lt48 w ↦ absurd (omega (arith, range, w.if-digit-lt48.true))
  | then-digit-lt48-via-else-digit-lt48+then-digit-gt57 w ↦ absurd (omega (arith, range, w.if-digit-gt57.true))
]) n (omega (arith, small))

pub returns-then-digit-lt48-clause-wide : goal.returns-then-digit-lt48-clause-wide
returns-then-digit-lt48-clause-wide c = no_digit c.args.digit (λ range. elim c.then-digit-lt48.branch [
  | then-digit-lt48-via-then-digit-lt48 w ↦ absurd (omega (arith, range, w.if-digit-lt48.true))
  | then-digit-lt48-via-else-digit-lt48+then-digit-gt57 w ↦ absurd (omega (arith, range, w.if-digit-gt57.true))
])

pub returns-clause-octet : goal.returns-clause-octet
returns-clause-octet c = (digit_read c.args.digit (omega (arith, c.if-digit-lt48.false), omega (arith, c.if-digit-gt57.false)), omega (arith, c.if-digit-gt57.false))

pub returns-clause-wide : goal.returns-clause-wide
returns-clause-wide c = (digit_read c.args.digit (omega (arith, c.if-digit-lt48.false), omega (arith, c.if-digit-gt57.false)), omega (arith, c.if-digit-gt57.false))
