use Rattle.world_keeps_connections.proofs.Users.{at_receiver, at_sender, known_partners}
use Rattle.world_keeps_connections.proofs.law.users.Goals as goal

pub returns : goal.returns
returns c = record {
  receiver = at_receiver;
  sender = at_sender;
  partners = known_partners;
}
