use Rattle.host_keeps_pairing.proofs.Endings.{answer_knows, data_told_same, idle_leaves, message_knows, offer_knows, others_leave, request_knows, rrp_leaves, rst_knows}
use Rattle.host_keeps_pairing.proofs.law.endings.Goals as goal

pub returns : goal.returns
returns c = record {
  offer = offer_knows;
  commands = message_knows;
  reset = rst_knows;
  answer = answer_knows;
  request = request_knows;
  idle = idle_leaves;
  reply = rrp_leaves;
  «data» = data_told_same;
  others = others_leave;
}
