use Rattle.subnet.proofs.Calls.Showing.{offer_same, take_same, step_same, round_same}
use Rattle.subnet.proofs.law.same_network.Goals as goal

pub returns-clause-offer_out : goal.returns-clause-offer_out
returns-clause-offer_out c = offer_same

pub returns-clause-take_in : goal.returns-clause-take_in
returns-clause-take_in c = take_same

pub returns-clause-step : goal.returns-clause-step
returns-clause-step c = step_same

pub returns-clause-quiet_round : goal.returns-clause-quiet_round
returns-clause-quiet_round c = round_same
