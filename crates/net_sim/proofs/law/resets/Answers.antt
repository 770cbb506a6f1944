use Rattle.net_sim.proofs.Resets.Calls.{opening_agrees, request_agrees, message_agrees, answer_agrees}
use Rattle.net_sim.proofs.Resets.Offers.{offer_may, offer_apart, offer_agrees}
use Rattle.net_sim.proofs.Resets.Unheard.{unheard}
use Rattle.net_sim.proofs.law.resets.Goals as goal

pub returns : goal.returns
returns c = record {
  opening = opening_agrees;
  request = request_agrees;
  message = message_agrees;
  unheard = unheard;
  answer = answer_agrees;
  may = offer_may;
  apart = offer_apart;
  offer = offer_agrees;
}
