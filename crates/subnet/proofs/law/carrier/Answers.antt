use Rattle.subnet.proofs.Calls.Working.{opening_working, offer_working, offer_shown, take_working, take_shown, step_working, step_shown, round_working, round_shown}
use Rattle.subnet.proofs.law.carrier.Goals as goal

pub returns-clause-offer_out : goal.returns-clause-offer_out
returns-clause-offer_out c = λ old new m r. offer_working old m r new

pub returns-clause-offer_shown : goal.returns-clause-offer_shown
returns-clause-offer_shown c = λ old new m r. offer_shown old m r new

pub returns-clause-take_in : goal.returns-clause-take_in
returns-clause-take_in c = λ old new h r. take_working old h r new

pub returns-clause-take_shown : goal.returns-clause-take_shown
returns-clause-take_shown c = λ old new h r. take_shown old h r new

pub returns-clause-step : goal.returns-clause-step
returns-clause-step c = λ old new e r. step_working old e r new

pub returns-clause-step_shown : goal.returns-clause-step_shown
returns-clause-step_shown c = λ old new e r. step_shown old e r new

pub returns-clause-quiet_round : goal.returns-clause-quiet_round
returns-clause-quiet_round c = λ old new r. round_working old r new

pub returns-clause-round_shown : goal.returns-clause-round_shown
returns-clause-round_shown c = λ old new r. round_shown old r new

pub returns-clause-opening : goal.returns-clause-opening
returns-clause-opening c = opening_working
