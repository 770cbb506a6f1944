use Rattle.std.proofs.Common.{length}
use Rattle.book_log.proofs.Named.{Passed}
use Rattle.book_log.proofs.strangers.read_strangers.Given as goal

abbrev pub invariant-lines : goal.invariant-lines
invariant-lines l = Passed l.text l.left l.strangers.items l.last

abbrev pub decreases-lines : goal.decreases-lines
decreases-lines l = length l.left
