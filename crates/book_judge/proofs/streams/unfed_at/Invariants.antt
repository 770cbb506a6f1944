use Rattle.book_judge.proofs.Common.{◌<◌, ℕ, FedAt}
use Rattle.book_judge.proofs.streams.unfed_at.Given as goal

abbrev pub invariant-loop-place : goal.invariant-loop-place
invariant-loop-place l = (i : ℕ) → i < l.place → FedAt l.names l.lives l.handed i
