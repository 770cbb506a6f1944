use Rattle.host_keeps_ranges.proofs.Calls.{answer_ranged, message_ranged, offer_ranged}
use Rattle.host_keeps_ranges.proofs.Requests.{request_ranged}
use Rattle.host_keeps_ranges.proofs.law.ranges.Goals as goal

pub returns-clause-opening : goal.returns-clause-opening
returns-clause-opening c own = record { pairs = tt; sizes = tt }

pub returns-clause-request : goal.returns-clause-request
returns-clause-request c = request_ranged

pub returns-clause-message : goal.returns-clause-message
returns-clause-message c = message_ranged

pub returns-clause-answer : goal.returns-clause-answer
returns-clause-answer c = answer_ranged

pub returns-clause-offer : goal.returns-clause-offer
returns-clause-offer c = offer_ranged
