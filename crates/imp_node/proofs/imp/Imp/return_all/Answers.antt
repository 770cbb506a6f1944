use Rattle.imp_node.proofs.Common.{All-drop, Message, all_returned, IsPacketFlow}
use Rattle.std.proofs.Common.{◌≡◌, ◌∷◌, List, drop, ap, sym, ◌∙◌}
use Rattle.imp_node.proofs.Firsts.{first_is}
use Rattle.imp_node.proofs.imp.Imp.return_all.Goals as goal

pub messages-preserved : goal.messages-preserved
messages-preserved c =
    let first : c.messages.queue.items ≡ c.in-Some.message ∷ drop 1 c.messages.queue.items = first_is _ _ (sym c.in-Some.ensures.value) in
    let step : all_returned c.messages.queue.items c.messages.self ≡ all_returned (c.in-Some.message ∷ drop 1 c.messages.queue.items) c.messages.self = ap (λ (q : List Message). all_returned q c.messages.self) first in
    record {
      flows = rw c.in-Some.ensures.items (All-drop (λ (m : Message). IsPacketFlow m.flow) 1 _ c.messages.invariant.flows);
      state = rw (c.in-Some.ensures.items, c.in_ok-return_one.ensures) (sym step ∙ c.messages.invariant.state);
    }
