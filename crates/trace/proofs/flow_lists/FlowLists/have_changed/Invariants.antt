use Rattle.trace.proofs.Common.{◌≡◌, drop, length, changed_lists}
use Rattle.trace.proofs.flow_lists.FlowLists.have_changed.Given as goal

-- nothing is other in the lists before this place
abbrev pub invariant-loop-place : goal.invariant-loop-place
invariant-loop-place l = (l.place-end ≡ length l.self) ×
    (changed_lists l.before l.self ≡ changed_lists (drop l.place l.before) (drop l.place l.self))
