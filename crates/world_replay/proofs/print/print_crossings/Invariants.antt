use Rattle.world_replay.proofs.Common.{◌≡◌, false, take, Appends, text_of, crossing_line}
use Rattle.world_replay.proofs.print.print_crossings.Given as goal

abbrev pub invariant-loop-crossing : goal.invariant-loop-crossing
invariant-loop-crossing g l = Appends (g.W.Output.contents l.fn.writer) (g.W.Output.contents l.writer) (text_of (crossing_line l.detail) (take l.crossing-index l.crossings)) × (g.W.Output.failed l.writer ≡ false)
