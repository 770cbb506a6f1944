use Rattle.subnet_trace.proofs.Common.{◌≡◌, false, map, known_part, told}
use Rattle.subnet_trace.proofs.PrintedParts.{AreLeft}
use Rattle.subnet_trace.proofs.flows.print_flows.Given as goal

-- the flows so far are printed
abbrev pub invariant-loop-flow : goal.invariant-loop-flow
invariant-loop-flow g l =
    (g.W.Output.failed l.writer ≡ false)
    × AreLeft (g.W.Output.contents l.fn.writer) (g.W.Output.contents l.writer) l.place l.fn.place (map told (map (known_part l.side (g.V.Known.state l.imp) g.V.Known.number) l.flow-iterator))
    (map told (map (known_part l.side (g.V.Known.state l.imp) g.V.Known.number) l.fn.flows))
