use Rattle.std.proofs.Common.{◌≡◌, ℕ, length}
use Rattle.subnet_trace.specs.Elements.{round_from_line}
use Rattle.subnet_trace.proofs.calm.from_line.Given as goal

-- no frame was live on the lines so far
abbrev pub invariant-loop-at : goal.invariant-loop-at
invariant-loop-at l =
    (l.at-end ≡ length l.subnet.net.lines) × ((round : ℕ) → round_from_line round l.at l.subnet.net ≡ round_from_line round l.fn.line l.subnet.net)
