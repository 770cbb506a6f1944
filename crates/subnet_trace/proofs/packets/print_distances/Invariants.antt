use Rattle.subnet_trace.proofs.Common.{◌≡◌, false, length, Remains}
use Rattle.subnet_trace.proofs.Printing.{distances_left}
use Rattle.subnet_trace.proofs.packets.print_distances.Given as goal

abbrev pub invariant-loop-index : goal.invariant-loop-index
invariant-loop-index g l =
    (l.index-end ≡ length l.distances) × (g.W.Output.failed l.writer ≡ false)
    × Remains (g.W.Output.contents l.fn.writer) (g.W.Output.contents l.writer) (distances_left l.place l.index l.distances) (distances_left 0 0 l.distances)
