use Rattle.book_judge.proofs.Common.{◌≤◌, length, AreStarts}
use Rattle.book_judge.proofs.starts.starts_of.Given as goal

abbrev pub invariant-loop-place : goal.invariant-loop-place
invariant-loop-place l = AreStarts l.place l.starts.items l.lives l.log × (l.place ≤ length l.lives)
