use Rattle.subnet.proofs.Common.{ℕ, ◌<◌, Direction}
use Rattle.subnet.specs.Inside.Settled.{IsStillOn}
use Rattle.subnet.proofs.parts.Parts.all_are_still.Given as goal

-- the lines so far
abbrev pub invariant-loop-line : goal.invariant-loop-line
invariant-loop-line l = (i : ℕ) (d : Direction) → i < l.line → IsStillOn l.self i d
