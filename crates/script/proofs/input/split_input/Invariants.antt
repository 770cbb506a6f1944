use Rattle.std.proofs.Common.{◌≤◌, length}
use Rattle.script.specs.Script.{lines_after}
use Rattle.script.proofs.Parts.{Passed}
use Rattle.script.proofs.input.split_input.Given as goal

abbrev pub invariant-lines : goal.invariant-lines
invariant-lines l = Passed l.input l.passed l.rest × (length l.input ≤ 268435456)

abbrev pub decreases-lines : goal.decreases-lines
decreases-lines l = length (lines_after l.rest)
