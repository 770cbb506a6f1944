use Rattle.host_keeps_pairing.proofs.Calls.{answer_keeps, message_data, message_hears, message_idle, message_replies, message_resets}
use Rattle.host_keeps_pairing.proofs.law.hearing.Goals as goal

pub returns : goal.returns
returns c = record {
  commands = message_hears;
  idle = message_idle;
  reset = message_resets;
  reply = message_replies;
  «data» = message_data;
  answer = answer_keeps;
}
