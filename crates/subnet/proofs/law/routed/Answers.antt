use Rattle.subnet.proofs.Packets.Routed.{opening_routed, offer_routed, take_routed, step_routed, round_routed, can_go}
use Rattle.subnet.proofs.law.routed.Goals as goal

pub returns-clause-opening : goal.returns-clause-opening
returns-clause-opening c = opening_routed

pub returns-clause-offer_out : goal.returns-clause-offer_out
returns-clause-offer_out c = offer_routed

pub returns-clause-take_in : goal.returns-clause-take_in
returns-clause-take_in c = take_routed

pub returns-clause-step : goal.returns-clause-step
returns-clause-step c = step_routed

pub returns-clause-quiet_round : goal.returns-clause-quiet_round
returns-clause-quiet_round c = round_routed

pub returns-clause-offers : goal.returns-clause-offers
returns-clause-offers c = can_go
