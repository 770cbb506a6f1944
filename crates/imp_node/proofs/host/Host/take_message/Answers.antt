use Rattle.imp_node.proofs.Common.{All-drop, Message, IsPacketFlow}
use Rattle.imp_node.proofs.host.Host.take_message.Goals as goal

pub invariant_of-self : goal.invariant_of-self
invariant_of-self c =
    rw c.pop_front.ensures.items (c.self.invariant.0, All-drop (λ (m : Message). IsPacketFlow m.flow) 1 _ c.self.invariant.1)
