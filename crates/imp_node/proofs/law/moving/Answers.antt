use Rattle.imp_node.proofs.SidesOfCalls.{from_host_moves, from_line_moves, arrival_says, answer_taken, message_taken, nothing_taken, give_up_moves, forget_becomes, stopped_becomes, returned_moves, host_up_becomes, resend_unmoved, route_unmoved, claim_unmoved, end_down_unmoved, end_up_unmoved, ask_unmoved, abandon_unmoved}
use Rattle.imp_node.proofs.law.moving.Goals as goal

pub returns : goal.returns
returns c = record {
  from_host = from_host_moves;
  from_line = from_line_moves;
  arrivals = arrival_says;
  answer_taken = answer_taken;
  message_taken = message_taken;
  nothing_taken = nothing_taken;
  give_up = give_up_moves;
  forget = forget_becomes;
  stopped = stopped_becomes;
  returned = returned_moves;
  host_up = host_up_becomes;
  resend = resend_unmoved;
  route = route_unmoved;
  claim = claim_unmoved;
  end_down = end_down_unmoved;
  end_up = end_up_unmoved;
  abandon = abandon_unmoved;
  ask = ask_unmoved;
}
