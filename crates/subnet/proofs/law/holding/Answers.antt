use Rattle.subnet.specs.Net.{port_of}
use Rattle.subnet.proofs.Packets.HavingByEvents.{offer_only, take_only, ask_only, stop_only, deliver_only, drop_nothing, resend_nothing, route_nothing, end_down_nothing, end_up_nothing, give_up_nothing, forget_nothing, abandon_nothing, start_host_nothing, start_imp_nothing, stop_imp_nothing}
use Rattle.subnet.proofs.law.holding.Goals as goal

pub returns-clause-offer_out : goal.returns-clause-offer_out
returns-clause-offer_out c = offer_only

pub returns-clause-take_in : goal.returns-clause-take_in
returns-clause-take_in c = take_only

pub returns-clause-deliver : goal.returns-clause-deliver
returns-clause-deliver c = deliver_only

pub returns-clause-host_down : goal.returns-clause-host_down
returns-clause-host_down c = stop_only

pub returns-clause-ask : goal.returns-clause-ask
returns-clause-ask c = ask_only

pub returns-clause-drop : goal.returns-clause-drop
returns-clause-drop c = drop_nothing

pub returns-clause-resend : goal.returns-clause-resend
returns-clause-resend c = resend_nothing

pub returns-clause-route : goal.returns-clause-route
returns-clause-route c = route_nothing

pub returns-clause-end_down : goal.returns-clause-end_down
returns-clause-end_down c = λ n i l. end_down_nothing n i (port_of n.lines i l)

pub returns-clause-end_up : goal.returns-clause-end_up
returns-clause-end_up c = λ n i l. end_up_nothing n i (port_of n.lines i l)

pub returns-clause-imp_down : goal.returns-clause-imp_down
returns-clause-imp_down c = stop_imp_nothing

pub returns-clause-imp_up : goal.returns-clause-imp_up
returns-clause-imp_up c = start_imp_nothing

pub returns-clause-host_up : goal.returns-clause-host_up
returns-clause-host_up c = start_host_nothing

pub returns-clause-give_up : goal.returns-clause-give_up
returns-clause-give_up c = λ n f. give_up_nothing n f.source.imp f

pub returns-clause-forget : goal.returns-clause-forget
returns-clause-forget c = forget_nothing

pub returns-clause-abandon : goal.returns-clause-abandon
returns-clause-abandon c = λ n f. abandon_nothing n f.destination.imp f
