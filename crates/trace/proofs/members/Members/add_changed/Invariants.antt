use Rattle.trace.proofs.Common.{◌≡◌, drop, length, changed, extended}
use Rattle.trace.proofs.members.Members.add_changed.Given as goal

-- with those that are left all are added
abbrev pub invariant-loop-place : goal.invariant-loop-place
invariant-loop-place l =
    (l.place-end ≡ length l.self) ×
    (extended l.text.items (changed (drop l.place l.before) (drop l.place l.self)) ≡ extended l.fn.object.items
    (changed l.before l.self))
