use Rattle.std.proofs.Common.{◌≡◌, ◌≤◌, ◌+◌, ◌-◌, false, length}
use Rattle.session.specs.Hearing.{Hears, hearing}
use Rattle.session.proofs.Heads.{AreLinesSoFar}
use Rattle.session.proofs.head.read_head.Given as goal

-- what was heard so far are lines of the topology
abbrev pub invariant-lines : goal.invariant-lines
invariant-lines g l =
    (g.R.Source.failed l.reader ≡ false) × (g.R.Source.ended l.reader ≡ false) × (length l.head.items + length l.ahead.items ≤ 268435456)
    × Hears (record { heard = 0; left = g.R.Source.remaining l.fn.reader })
    (hearing (length l.head.items) l.ahead.items (g.R.Source.remaining l.reader)) l.head.items
    × AreLinesSoFar l.head.items

abbrev pub decreases-lines : goal.decreases-lines
decreases-lines g l = 268435457 - length l.head.items
