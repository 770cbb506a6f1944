use Rattle.trace.proofs.Common.{◌≡◌, drop, length, changed_lists, extended}
use Rattle.trace.proofs.flow_lists.FlowLists.add_changed.Given as goal

-- with the lists that are left all is added
abbrev pub invariant-loop-place : goal.invariant-loop-place
invariant-loop-place l =
    (l.place-end ≡ length l.self) ×
    (extended l.text.items
    (changed_lists (drop l.place l.before) (drop l.place l.self)) ≡ extended l.fn.object.items
    (changed_lists l.before l.self))
