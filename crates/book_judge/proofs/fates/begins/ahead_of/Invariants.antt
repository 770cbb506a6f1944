use Rattle.std.proofs.Common.{◌≤◌, drop, length}
use Rattle.book_judge.specs.Inside.Begins.{IsAhead}
use Rattle.book_judge.proofs.fates.begins.ahead_of.Given as goal

abbrev pub invariant-changes : goal.invariant-changes
invariant-changes l = IsAhead (drop l.place l.changes) l.ahead × (l.place ≤ length l.changes)

abbrev pub decreases-changes : goal.decreases-changes
decreases-changes l = l.place
