use Rattle.replay.proofs.Common.{◌≡◌, false, take, Appends, output, shown_crossings}
use Rattle.replay.proofs.print.print_crossings.Given as goal

abbrev pub invariant-loop-crossing : goal.invariant-loop-crossing
invariant-loop-crossing g l = Appends (g.W.Output.contents l.fn.writer) (g.W.Output.contents l.writer) (output l.detail (shown_crossings (take l.crossing-index l.crossings))) × (g.W.Output.failed l.writer ≡ false)
