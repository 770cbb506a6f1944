use Rattle.sockets.proofs.OtherLemmas.{message_leaves, answer_leaves, offer_leaves, call_leaves}
use Rattle.sockets.proofs.PairLemmas.{pair_changed}
use Rattle.sockets.proofs.law.others.Goals as goal

pub returns : goal.returns
returns c = record {
  changed = pair_changed;
  message = message_leaves;
  answer = answer_leaves;
  offer = offer_leaves;
  call = call_leaves;
}
