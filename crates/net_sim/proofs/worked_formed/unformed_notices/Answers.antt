use Rattle.net_sim.proofs.Books.Untold as untold
use Rattle.net_sim.proofs.worked_formed.unformed_notices.Goals as goal

pub returns : goal.returns
returns c = record {
  kind = untold.kind;
  partner_unheard = untold.partner_unheard;
  own_unsaid = untold.own_unsaid;
  sent_bits = untold.sent_bits;
  sent_socket = untold.sent_socket;
  arrived_socket = untold.arrived_socket;
  another_host = untold.another_host;
}
