use Rattle.subnet_trace.proofs.Common.{◌≡◌, ◌++◌, length, all_flows}
use Rattle.subnet_trace.proofs.FlowLists.{flows_left}
use Rattle.subnet_trace.proofs.parts.all_flows.Given as goal

-- with the flows of the IMPs that are left they are all
abbrev pub invariant-loop-number : goal.invariant-loop-number
invariant-loop-number l = (l.number-end ≡ length l.subnet.net.imps) × (l.lists ++ flows_left l.subnet.net l.number ≡ all_flows l.subnet.net)
