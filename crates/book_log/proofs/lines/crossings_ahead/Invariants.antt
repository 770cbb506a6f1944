use Rattle.std.proofs.Common.{◌*◌, ◌<◌, ◌≤◌, ◌^◌, ◌+◌, length}
use Rattle.book_log.proofs.lines.crossings_ahead.Given as goal

-- each line so far has 6 octets at least
abbrev pub invariant-lines : goal.invariant-lines
invariant-lines l = (6 * l.count + length l.left ≤ length l.text) × (length l.text < 2 ^ 63)

abbrev pub decreases-lines : goal.decreases-lines
decreases-lines l = length l.left
