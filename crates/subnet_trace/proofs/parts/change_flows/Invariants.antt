use Rattle.subnet_trace.proofs.Common.{◌≡◌, ◌≤◌, ◌+◌, length, all_flows, HasFlowsIn, changed_lists, extended}
use Rattle.subnet_trace.proofs.FlowLists.{FlowsAt}
use Rattle.subnet_trace.proofs.parts.change_flows.Given as goal

-- the flows of the IMPs so far are put in their places
abbrev pub invariant-loop-number : goal.invariant-loop-number
invariant-loop-number l =
    (r : HasFlowsIn l.scope l.fn.known l.subnet.net) × (l.number-end ≡ length l.subnet.net.imps) × (l.place ≤ l.number + l.number)
    × FlowsAt l.scope l.fn.known l.subnet.net r (extended l.fn.object.items (changed_lists l.fn.known (all_flows l.subnet.net))) l.number l.place l.known l.text.items
