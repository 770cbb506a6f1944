use Rattle.book_judge.proofs.Common.{◌<◌, ℕ, ClosedAt}
use Rattle.book_judge.proofs.closes.lost_at.Given as goal

abbrev pub invariant-loop-place : goal.invariant-loop-place
invariant-loop-place l = (i : ℕ) → i < l.place → ClosedAt l.names l.lives l.handed l.fates i
