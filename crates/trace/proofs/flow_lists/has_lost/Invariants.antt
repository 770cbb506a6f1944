use Rattle.std.proofs.Common.{◌≡◌, drop, filter, length, not}
use Rattle.trace.specs.Changes.{lost, is_there}
use Rattle.trace.proofs.flow_lists.has_lost.Given as goal

-- none before this place is among them
abbrev pub invariant-loop-place : goal.invariant-loop-place
invariant-loop-place l = (l.place-end ≡ length l.before) ×
    (lost l.before l.now ≡ filter (λ p. not (is_there l.now p)) (drop l.place l.before))
