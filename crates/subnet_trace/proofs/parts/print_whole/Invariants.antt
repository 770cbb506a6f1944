use Rattle.std.proofs.Common.{◌≡◌, false, length}
use Rattle.subnet_trace.proofs.PrintedParts.{AreLeft, all_members_of, flow_texts}
use Rattle.subnet_trace.proofs.parts.print_whole.Given as goal

-- the flows of the IMPs so far are printed
abbrev pub invariant-loop-imp : goal.invariant-loop-imp
invariant-loop-imp g l =
    (l.imp-end ≡ length l.subnet.net.imps) × (g.W.Output.failed l.writer ≡ false)
    × AreLeft (g.W.Output.contents l.fn.writer) (g.W.Output.contents l.writer) l.place 0 (flow_texts l.subnet.net l.imp) (all_members_of l.subnet.net)
