use Rattle.std.proofs.Common.{◌≡◌, ◌≤◌, ◌+◌, ◌-◌, false, length, true}
use Rattle.session.specs.Hearing.{hearing}
use Rattle.session.proofs.Turns.{Standing}
use Rattle.session.proofs.answering.answer_lines.Given as goal

-- all lines so far are answered, and nothing is held back
abbrev pub invariant-lines : goal.invariant-lines
invariant-lines g l =
    (g.R.Source.failed l.reader ≡ false) × (g.R.Source.ended l.reader ≡ false) × (g.W.Output.failed l.writer ≡ false) × (g.W.Output.flushed l.writer ≡ true)
    × (l.so_far + length l.ahead.items ≤ 268435456) × (l.passed ≤ l.so_far)
    × Standing g.E.ScriptEvent.spelled (g.E.ScriptEvent.is_meant l.strangers) g.S.Stage.replays l.fn.stage l.stage
    (hearing l.fn.heard l.fn.ahead.items (g.R.Source.remaining l.fn.reader)) (hearing l.so_far l.ahead.items (g.R.Source.remaining l.reader))
    (g.W.Output.contents l.fn.writer) (g.W.Output.contents l.writer) l.passed

abbrev pub decreases-lines : goal.decreases-lines
decreases-lines g l = 268435457 - l.passed
