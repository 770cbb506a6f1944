use Rattle.std.proofs.Common.{◌≡◌, length, take}
use Rattle.subnet_trace.proofs.ways.are_same.Given as goal

-- those so far are the same, and there are as many
abbrev pub invariant-loop-port : goal.invariant-loop-port
invariant-loop-port l = (l.port-end ≡ length l.these) × (length l.these ≡ length l.those) × (take l.port l.these ≡ take l.port l.those)
