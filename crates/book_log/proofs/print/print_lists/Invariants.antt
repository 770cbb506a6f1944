use Rattle.book_log.proofs.Common.{◌≡◌, false, take, All, Appends, text_of, IsHanded, handed_line}
use Rattle.book_log.proofs.print.print_lists.Given as goal

abbrev pub invariant-loop-bits : goal.invariant-loop-bits
invariant-loop-bits g l = Appends (g.W.Output.contents l.fn.writer) (g.W.Output.contents l.writer) (text_of handed_line (take l.bits-index l.handed)) × (g.W.Output.failed l.writer ≡ false) × All IsHanded (take l.bits-index l.handed)
