use Rattle.std.proofs.Common.{◌≡◌, length, take}
use Rattle.trace.proofs.flow_lists.FlowLists.copy.Given as goal

-- as many are copied as come before this place
abbrev pub invariant-loop-place : goal.invariant-loop-place
invariant-loop-place l = (l.place-end ≡ length l.self) × (l.copy ≡ take l.place l.self)
