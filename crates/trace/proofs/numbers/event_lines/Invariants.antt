use Rattle.std.proofs.Common.{◌≡◌, ◌≤◌, ◌+◌, ◌++◌, drop, length}
use Rattle.script.specs.Script.{lines_of, lines_after}
use Rattle.trace.specs.Traces.{asking_from, event_lines}
use Rattle.trace.proofs.numbers.event_lines.Given as goal

abbrev pub invariant-lines : goal.invariant-lines
invariant-lines l = (drop l.passed (lines_of l.script) ≡ lines_after l.rest) × (l.numbers.items ++ asking_from (l.passed + 1) (lines_after l.rest) ≡ event_lines l.script) × (length l.script ≤ 268435456)

abbrev pub decreases-lines : goal.decreases-lines
decreases-lines l = length (lines_after l.rest)
