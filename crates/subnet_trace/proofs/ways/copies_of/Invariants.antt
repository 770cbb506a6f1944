use Rattle.std.proofs.Common.{◌≡◌, length, take}
use Rattle.subnet_trace.proofs.ways.copies_of.Given as goal

-- copies of those so far
abbrev pub invariant-loop-port : goal.invariant-loop-port
invariant-loop-port l = (l.port-end ≡ length l.heard) × (l.copies.items ≡ take l.port l.heard)
