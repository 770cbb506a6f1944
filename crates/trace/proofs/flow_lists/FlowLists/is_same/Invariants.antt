use Rattle.std.proofs.Common.{◌≡◌, length, take}
use Rattle.trace.proofs.flow_lists.FlowLists.is_same.Given as goal

-- those before this place are the same
abbrev pub invariant-loop-place : goal.invariant-loop-place
invariant-loop-place l = (l.place-end ≡ length l.self) × (length l.self ≡ length l.other) ×
    (take l.place l.self ≡ take l.place l.other)
