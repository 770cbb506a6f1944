use Rattle.subnet_trace.proofs.Common.{◌≡◌, ◌++◌, length, all_parts, parts_members}
use Rattle.subnet_trace.proofs.AllMembers.{imps_left, lines_left}
use Rattle.subnet_trace.proofs.parts.all_members.Given as goal

-- with the IMPs and lines that are left they are all
abbrev pub invariant-loop-imp : goal.invariant-loop-imp
invariant-loop-imp l = (l.imp-end ≡ length l.subnet.net.imps) × (l.members ++ imps_left l.subnet.net l.imp ≡ parts_members l.subnet.net (all_parts l.subnet.net))

-- and with the lines
abbrev pub invariant-loop-number : goal.invariant-loop-number
invariant-loop-number l = (l.number-end ≡ length l.subnet.net.lines) × (l.members ++ lines_left l.subnet.net l.number ≡ parts_members l.subnet.net (all_parts l.subnet.net))
