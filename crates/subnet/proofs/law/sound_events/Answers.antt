use Rattle.subnet.proofs.Common.{sound_run, port_of, Alive, view}
use Rattle.subnet.proofs.Moves.Asking.{ask_sound}
use Rattle.subnet.proofs.Moves.GivingUp.{give_up_sound}
use Rattle.subnet.proofs.Moves.QuietCalls.{drop_sound, resend_sound, route_sound, end_down_sound, end_up_sound, abandon_sound}
use Rattle.subnet.proofs.law.sound_events.Goals as goal

pub returns-clause-drop : goal.returns-clause-drop
returns-clause-drop c = drop_sound

pub returns-clause-resend : goal.returns-clause-resend
returns-clause-resend c = resend_sound

pub returns-clause-route : goal.returns-clause-route
returns-clause-route c = route_sound

pub returns-clause-end_down : goal.returns-clause-end_down
returns-clause-end_down c = λ n i l. end_down_sound n i (port_of n.lines i l)

pub returns-clause-end_up : goal.returns-clause-end_up
returns-clause-end_up c = λ n i l. end_up_sound n i (port_of n.lines i l)

pub returns-clause-abandon : goal.returns-clause-abandon
returns-clause-abandon c = λ n f. abandon_sound n f.destination.imp f

pub returns-clause-run : goal.returns-clause-run
returns-clause-run c = λ n is. sound_run n.hosts n.log (view n) (Alive n) is.flows

pub returns-clause-give_up : goal.returns-clause-give_up
returns-clause-give_up c = give_up_sound

pub returns-clause-ask : goal.returns-clause-ask
returns-clause-ask c = ask_sound
