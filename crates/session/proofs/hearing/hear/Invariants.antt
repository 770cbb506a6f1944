use Rattle.session.proofs.Common.{Keeps, prepend_known, IsLine}
use Rattle.std.proofs.Common.{◌≡◌, ◌≤◌, ◌+◌, ◌-◌, false, length}
use Rattle.session.proofs.hearing.hear.Given as goal

-- what was read ahead, in which no line has its end, and what is left to be read are what was left
abbrev pub invariant-chunks : goal.invariant-chunks
invariant-chunks g l =
    (g.R.Source.failed l.reader ≡ false) × (g.R.Source.ended l.reader ≡ false) × (l.fn.heard + length l.ahead.items ≤ 268435456) × IsLine l.ahead.items
    × Keeps (prepend_known l.fn.ahead.items (g.R.Source.remaining l.fn.reader)) (prepend_known l.ahead.items (g.R.Source.remaining l.reader))

abbrev pub decreases-chunks : goal.decreases-chunks
decreases-chunks g l = 268435457 - length l.ahead.items
