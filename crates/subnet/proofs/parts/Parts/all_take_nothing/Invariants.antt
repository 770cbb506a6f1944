use Rattle.std.proofs.Common.{ℕ, ◌<◌}
use Rattle.subnet.specs.Inside.Resting.{TakesNoneAt}
use Rattle.subnet.proofs.parts.Parts.all_take_nothing.Given as goal

-- the hosts so far
abbrev pub invariant-loop-at : goal.invariant-loop-at
invariant-loop-at l = (i : ℕ) → i < l.at → TakesNoneAt l.self l.hosts i
