use Rattle.net_sim.proofs.Resets.Ordered.{request_order, message_order, answer_order, offer_order}
use Rattle.net_sim.proofs.law.orders.Goals as goal

pub returns-clause-request : goal.returns-clause-request
returns-clause-request c = request_order

pub returns-clause-message : goal.returns-clause-message
returns-clause-message c = message_order

pub returns-clause-answer : goal.returns-clause-answer
returns-clause-answer c = answer_order

pub returns-clause-offer : goal.returns-clause-offer
returns-clause-offer c = offer_order
