use Rattle.book_judge.proofs.Common.{◌≤◌, length, reverse, AreNamed}
use Rattle.book_judge.proofs.stamps.partners_of.Given as goal

abbrev pub invariant-loop-place : goal.invariant-loop-place
invariant-loop-place l = AreNamed l.place l.names.items l.lives (reverse l.log) × (l.place ≤ length l.lives)
