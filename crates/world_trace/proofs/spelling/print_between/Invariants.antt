use Rattle.world_trace.proofs.Common.{◌≡◌, false, take, Appends, flat_map}
use Rattle.world_trace.specs.Texts.{lines_octet}
use Rattle.world_trace.proofs.spelling.print_between.Given as goal

abbrev pub invariant-loop-octet : goal.invariant-loop-octet
invariant-loop-octet g l = Appends (g.W.Output.contents l.fn.writer) (g.W.Output.contents l.writer) (flat_map lines_octet (take l.octet-index l.octets)) × (g.W.Output.failed l.writer ≡ false)
