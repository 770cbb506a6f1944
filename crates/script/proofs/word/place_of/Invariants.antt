use Rattle.std.proofs.Common.{length, take, ◌-◌, ◌≤◌}
use Rattle.script.specs.Steps.{Lacks}
use Rattle.script.proofs.word.place_of.Given as goal

abbrev pub invariant-fours : goal.invariant-fours
invariant-fours l = Lacks l.separator (take l.at l.text) × l.at ≤ length l.text

abbrev pub decreases-fours : goal.decreases-fours
decreases-fours l = length l.text - l.at

abbrev pub invariant-rest : goal.invariant-rest
invariant-rest l = Lacks l.separator (take l.at l.text) × l.at ≤ length l.text

abbrev pub decreases-rest : goal.decreases-rest
decreases-rest l = length l.text - l.at
