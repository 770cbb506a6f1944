use Rattle.trace.proofs.Common.{◌≡◌, drop, length, changed}
use Rattle.trace.proofs.members.Members.have_changed.Given as goal

-- no member before this place is other than it was
abbrev pub invariant-loop-place : goal.invariant-loop-place
invariant-loop-place l = (l.place-end ≡ length l.self) × (changed l.before l.self ≡ changed (drop l.place l.before) (drop l.place l.self))
