use Rattle.subnet_trace.proofs.Common.{◌≡◌, false, next_text, Remains}
use Rattle.subnet_trace.proofs.Printing.{ports_left}
use Rattle.subnet_trace.proofs.packets.print_ports.Given as goal

abbrev pub invariant-loop-index : goal.invariant-loop-index
invariant-loop-index g l =
    (g.W.Output.failed l.writer ≡ false)
    × Remains (g.W.Output.contents l.fn.writer) (g.W.Output.contents l.writer) (ports_left l.routes l.place l.index) (next_text l.routes)
