use Rattle.std.proofs.Common.{◌≡◌, false, length}
use Rattle.subnet_trace.proofs.AllMembers.{imps_left, lines_left}
use Rattle.subnet_trace.proofs.PrintedParts.{AreLeft, fixed_members}
use Rattle.subnet_trace.proofs.parts.print_fixed.Given as goal

-- the IMPs so far are printed
abbrev pub invariant-loop-imp : goal.invariant-loop-imp
invariant-loop-imp g l =
    (l.imp-end ≡ length l.subnet.net.imps) × (g.W.Output.failed l.writer ≡ false)
    × AreLeft (g.W.Output.contents l.fn.writer) (g.W.Output.contents l.writer) l.place 0 (imps_left l.subnet.net l.imp) (fixed_members l.subnet.net)

-- and the lines
abbrev pub invariant-loop-number : goal.invariant-loop-number
invariant-loop-number g l =
    (l.number-end ≡ length l.subnet.net.lines) × (g.W.Output.failed l.writer ≡ false)
    × AreLeft (g.W.Output.contents l.fn.writer) (g.W.Output.contents l.writer) l.place 0 (lines_left l.subnet.net l.number) (fixed_members l.subnet.net)
