use Rattle.trace.proofs.Common.{◌≡◌, drop, filter, length, map, not, altered, is_told, told, extended}
use Rattle.trace.proofs.flow_lists.add_altered.Given as goal

-- with those that are left all are added
abbrev pub invariant-loop-place : goal.invariant-loop-place
invariant-loop-place l =
    (l.place-end ≡ length l.now) ×
    (extended l.text.items
    (map told (filter (λ p. not (is_told l.before p)) (drop l.place l.now))) ≡ extended l.fn.object.items
    (map told (altered l.before l.now)))
