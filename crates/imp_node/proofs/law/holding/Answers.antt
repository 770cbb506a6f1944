use Rattle.imp_node.proofs.HeldByCalls.{from_host_leaves, from_line_leaves, to_host_leaves, host_down_leaves, resend_leaves, route_leaves, claim_leaves, end_down_leaves, end_up_leaves, give_up_leaves, ask_leaves, forget_leaves, abandon_leaves, host_up_leaves, start_packets}
use Rattle.imp_node.proofs.law.holding.Goals as goal

pub returns-clause-from_host : goal.returns-clause-from_host
returns-clause-from_host c = from_host_leaves

pub returns-clause-from_line : goal.returns-clause-from_line
returns-clause-from_line c = from_line_leaves

pub returns-clause-to_host : goal.returns-clause-to_host
returns-clause-to_host c = to_host_leaves

pub returns-clause-host_down : goal.returns-clause-host_down
returns-clause-host_down c = host_down_leaves

pub returns-clause-resend : goal.returns-clause-resend
returns-clause-resend c = resend_leaves

pub returns-clause-route : goal.returns-clause-route
returns-clause-route c = route_leaves

pub returns-clause-claim : goal.returns-clause-claim
returns-clause-claim c = claim_leaves

pub returns-clause-end_down : goal.returns-clause-end_down
returns-clause-end_down c = end_down_leaves

pub returns-clause-end_up : goal.returns-clause-end_up
returns-clause-end_up c = end_up_leaves

pub returns-clause-give_up : goal.returns-clause-give_up
returns-clause-give_up c = give_up_leaves

pub returns-clause-forget : goal.returns-clause-forget
returns-clause-forget c = forget_leaves

pub returns-clause-abandon : goal.returns-clause-abandon
returns-clause-abandon c = abandon_leaves

pub returns-clause-host_up : goal.returns-clause-host_up
returns-clause-host_up c = host_up_leaves

pub returns-clause-opening : goal.returns-clause-opening
returns-clause-opening c = start_packets

pub returns-clause-ask : goal.returns-clause-ask
returns-clause-ask c = ask_leaves
