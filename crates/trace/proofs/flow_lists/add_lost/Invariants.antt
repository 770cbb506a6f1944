use Rattle.trace.proofs.Common.{◌≡◌, drop, filter, length, map, not, gone, extended}
use Rattle.trace.specs.Changes.{lost, is_there}
use Rattle.trace.proofs.flow_lists.add_lost.Given as goal

-- with those that are left all are added
abbrev pub invariant-loop-place : goal.invariant-loop-place
invariant-loop-place l =
    (l.place-end ≡ length l.before) ×
    (extended l.text.items
    (map gone (filter (λ p. not (is_there l.now p)) (drop l.place l.before))) ≡ extended l.fn.object.items
    (map gone (lost l.before l.now)))
