use Rattle.std.proofs.Common.{◌<◌, ◌≤◌, ◌^◌, ◌+◌, length}
use Rattle.book_log.proofs.Going.{Reached}
use Rattle.book_log.proofs.read.read_book.Given as goal

-- the lines that were read describe the book, and the others are left
abbrev pub invariant-lines : goal.invariant-lines
invariant-lines l =
    Reached l.text l.left l.book l.passed × (l.passed + length l.left ≤ length l.text) × (length l.text < 2 ^ 63)

abbrev pub decreases-lines : goal.decreases-lines
decreases-lines l = length l.left
