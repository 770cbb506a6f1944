use Rattle.std.proofs.Common.{◌≡◌, false}
use Rattle.book_log.proofs.Printed.{Written}
use Rattle.book_log.proofs.print.print_octets.Given as goal

-- the octets up to this one are written
abbrev pub invariant-loop-i : goal.invariant-loop-i
invariant-loop-i g l = Written l.bits l.i (g.W.Output.contents l.fn.writer) (g.W.Output.contents l.writer) × (g.W.Output.failed l.writer ≡ false)
