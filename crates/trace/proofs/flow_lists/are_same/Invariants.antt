use Rattle.std.proofs.Common.{◌≡◌, length, take}
use Rattle.trace.proofs.flow_lists.are_same.Given as goal

-- those before this place are the same
abbrev pub invariant-loop-place : goal.invariant-loop-place
invariant-loop-place l = (l.place-end ≡ length l.one) × (length l.one ≡ length l.other) ×
    (take l.place l.one ≡ take l.place l.other)
