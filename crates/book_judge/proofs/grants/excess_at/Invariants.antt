use Rattle.book_judge.proofs.Common.{◌<◌, ℕ, GrantedAt}
use Rattle.book_judge.proofs.grants.excess_at.Given as goal

abbrev pub invariant-loop-place : goal.invariant-loop-place
invariant-loop-place l = (i : ℕ) → i < l.place → GrantedAt l.names l.lives i
