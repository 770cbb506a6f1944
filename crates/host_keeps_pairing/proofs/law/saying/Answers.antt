use Rattle.host_keeps_pairing.proofs.Calls.{offer_may, offer_says, opening_has}
use Rattle.host_keeps_pairing.proofs.Requests.{request_keeps}
use Rattle.host_keeps_pairing.proofs.law.saying.Goals as goal

pub returns : goal.returns
returns c = record {
  opening = opening_has;
  request = request_keeps;
  may = offer_may;
  offer = offer_says;
}
