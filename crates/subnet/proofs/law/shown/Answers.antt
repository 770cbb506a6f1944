use Rattle.subnet.proofs.Calls.Showing.{imp_says, offer_log, take_log, take_for, step_log, round_log}
use Rattle.subnet.proofs.law.shown.Goals as goal

pub returns-clause-ups : goal.returns-clause-ups
returns-clause-ups c = imp_says

pub returns-clause-offer_out : goal.returns-clause-offer_out
returns-clause-offer_out c = offer_log

pub returns-clause-take_in : goal.returns-clause-take_in
returns-clause-take_in c = take_log

pub returns-clause-taken : goal.returns-clause-taken
returns-clause-taken c = take_for

pub returns-clause-step : goal.returns-clause-step
returns-clause-step c = step_log

pub returns-clause-quiet_round : goal.returns-clause-quiet_round
returns-clause-quiet_round c = round_log
