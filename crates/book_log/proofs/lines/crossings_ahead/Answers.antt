use Rattle.std.proofs.Common.{arith, rules}
use Rattle.book_log.proofs.Going.{shorter, shorter_by}
use Rattle.book_log.proofs.lines.crossings_ahead.Goals as goal

pub lines-preserved : goal.lines-preserved
lines-preserved c = (
  omega (
    arith,
    c.lines.invariant.0,
    shorter_by c.lines.left.now c.in-Some.line.now c.in-Some.more.now c.in-Some.ensures.0 (search rules),
  ),
  c.lines.invariant.1,
)

pub lines-smaller : goal.lines-smaller
lines-smaller c = shorter c.lines.left.now c.in-Some.line.now c.in-Some.more.now c.in-Some.ensures.0
