use Rattle.std.proofs.Common.{◌≤◌, length}
use Rattle.book_judge.specs.Inside.Chains.{AreChained}
use Rattle.book_judge.proofs.chains.chained.Given as goal

abbrev pub invariant-loop-place : goal.invariant-loop-place
invariant-loop-place l = AreChained l.place l.last l.before.items l.lives × (l.place ≤ length l.lives)
