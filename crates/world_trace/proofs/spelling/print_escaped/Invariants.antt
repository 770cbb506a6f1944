use Rattle.world_trace.proofs.Common.{◌≡◌, false, take, Appends}
use Rattle.world_trace.specs.Texts.{escaped}
use Rattle.world_trace.proofs.spelling.print_escaped.Given as goal

abbrev pub invariant-loop-octet : goal.invariant-loop-octet
invariant-loop-octet g l = Appends (g.W.Output.contents l.fn.writer) (g.W.Output.contents l.writer) (escaped (take l.octet-index l.octets)) × (g.W.Output.failed l.writer ≡ false)
