use Rattle.host_keeps_pairing.proofs.Told.{answer_other, data_told, idle_other, message_tells, offer_tells, request_other, rrp_other, rst_other}
use Rattle.host_keeps_pairing.proofs.law.openings.Goals as goal

pub returns : goal.returns
returns c = record {
  offer = offer_tells;
  commands = message_tells;
  idle = idle_other;
  reset = rst_other;
  reply = rrp_other;
  «data» = data_told;
  answer = answer_other;
  request = request_other;
}
