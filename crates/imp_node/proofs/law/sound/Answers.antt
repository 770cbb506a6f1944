use Rattle.imp_node.proofs.Sound.{opening_imp, from_host_imp, from_line_imp, to_host_imp, resend_imp, route_imp, claim_imp, end_down_imp, end_up_imp, give_up_imp, ask_imp, forget_imp, abandon_imp, host_down_imp, host_up_imp}
use Rattle.imp_node.proofs.law.sound.Goals as goal

pub returns-clause-opening : goal.returns-clause-opening
returns-clause-opening c = opening_imp

pub returns-clause-from_host : goal.returns-clause-from_host
returns-clause-from_host c = from_host_imp

pub returns-clause-from_line : goal.returns-clause-from_line
returns-clause-from_line c = from_line_imp

pub returns-clause-to_host : goal.returns-clause-to_host
returns-clause-to_host c = to_host_imp

pub returns-clause-resend : goal.returns-clause-resend
returns-clause-resend c = resend_imp

pub returns-clause-route : goal.returns-clause-route
returns-clause-route c = route_imp

pub returns-clause-claim : goal.returns-clause-claim
returns-clause-claim c = claim_imp

pub returns-clause-end_down : goal.returns-clause-end_down
returns-clause-end_down c = end_down_imp

pub returns-clause-end_up : goal.returns-clause-end_up
returns-clause-end_up c = end_up_imp

pub returns-clause-give_up : goal.returns-clause-give_up
returns-clause-give_up c = give_up_imp

pub returns-clause-forget : goal.returns-clause-forget
returns-clause-forget c = forget_imp

pub returns-clause-abandon : goal.returns-clause-abandon
returns-clause-abandon c = abandon_imp

pub returns-clause-host_down : goal.returns-clause-host_down
returns-clause-host_down c = host_down_imp

pub returns-clause-host_up : goal.returns-clause-host_up
returns-clause-host_up c = host_up_imp

pub returns-clause-ask : goal.returns-clause-ask
returns-clause-ask c = ask_imp
