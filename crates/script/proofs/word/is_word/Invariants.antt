use Rattle.std.proofs.Common.{◌≡◌, ◌≤◌, ◌-◌, length, take}
use Rattle.script.proofs.word.is_word.Given as goal

abbrev pub invariant-same : goal.invariant-same
invariant-same l = (take l.at l.word ≡ take l.at l.key) × (l.at ≤ length l.key)

abbrev pub decreases-same : goal.decreases-same
decreases-same l = length l.key - l.at
