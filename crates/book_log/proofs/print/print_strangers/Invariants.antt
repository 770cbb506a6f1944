use Rattle.book_log.proofs.Common.{◌≡◌, false, take, Appends, text_of, stranger_line}
use Rattle.book_log.proofs.print.print_strangers.Given as goal

abbrev pub invariant-loop-stranger : goal.invariant-loop-stranger
invariant-loop-stranger g l = Appends (g.W.Output.contents l.fn.writer) (g.W.Output.contents l.writer) (text_of stranger_line (take l.stranger-index l.strangers)) × (g.W.Output.failed l.writer ≡ false)
