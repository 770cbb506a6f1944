use Rattle.std.proofs.Common.{◌≡◌, ◌≤◌, drop, take, length}
use Rattle.script.specs.Script.{lines_of, lines_after, AskForAs}
use Rattle.script.proofs.scripts.read_events.Given as goal

abbrev pub invariant-lines : goal.invariant-lines
invariant-lines g l = (drop l.passed (lines_of l.text) ≡ lines_after l.rest) × AskForAs g.E.ScriptEvent.spelled (g.E.ScriptEvent.is_meant l.strangers) l.events.items (take l.passed (lines_of l.text)) × (length l.text ≤ 268435456)

abbrev pub decreases-lines : goal.decreases-lines
decreases-lines g l = length (lines_after l.rest)
