use Rattle.trace.proofs.Common.{◌≡◌, drop, filter, length, not, altered, is_told}
use Rattle.trace.proofs.flow_lists.has_altered.Given as goal

-- none before this place is among them
abbrev pub invariant-loop-place : goal.invariant-loop-place
invariant-loop-place l = (l.place-end ≡ length l.now) ×
    (altered l.before l.now ≡ filter (λ p. not (is_told l.before p)) (drop l.place l.now))
