use Rattle.book_judge.proofs.Common.{◌≤◌, length, AreArrivals}
use Rattle.book_judge.proofs.arrivals.arrivals_of.Given as goal

abbrev pub invariant-loop-place : goal.invariant-loop-place
invariant-loop-place l = AreArrivals l.place l.arrivals.items l.log × (l.place ≤ length l.log)
