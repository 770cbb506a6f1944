use Rattle.book_judge.proofs.Common.{◌≤◌, drop, length}
use Rattle.book_judge.specs.Inside.Allocations.{AreHeld, by_log}
use Rattle.book_judge.proofs.allocations.allocations_of.Given as goal

abbrev pub invariant-places : goal.invariant-places
invariant-places l = (l.place ≤ length l.log) × AreHeld l.place (by_log l.place (drop l.place l.log)) l.allocations

abbrev pub decreases-places : goal.decreases-places
decreases-places l = l.place
