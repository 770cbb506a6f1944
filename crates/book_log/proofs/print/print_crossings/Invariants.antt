use Rattle.book_log.proofs.Common.{◌≡◌, false, take, All, Appends, text_of, IsCrossing, logged_line}
use Rattle.book_log.proofs.print.print_crossings.Given as goal

abbrev pub invariant-loop-crossing : goal.invariant-loop-crossing
invariant-loop-crossing g l = Appends (g.W.Output.contents l.fn.writer) (g.W.Output.contents l.writer) (text_of logged_line (take l.crossing-index l.crossings)) × (g.W.Output.failed l.writer ≡ false) × All IsCrossing (take l.crossing-index l.crossings)
