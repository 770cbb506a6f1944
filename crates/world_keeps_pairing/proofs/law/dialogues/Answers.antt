use Rattle.std.proofs.Common.{ap}
use Rattle.world_keeps_pairing.proofs.Views.{View, same_view}
use Rattle.world_keeps_pairing.proofs.Legal.{legal}
use Rattle.world_keeps_pairing.proofs.law.dialogues.Goals as goal

pub returns : goal.returns
returns c = record {
  stays = λ a b events. (ap (λ (v : View). v.receiver_stays) (same_view a b events), ap (λ (v : View). v.sender_stays) (same_view a b events));
  said = λ a b events. (ap (λ (v : View). v.receiver_said) (same_view a b events), ap (λ (v : View). v.sender_said) (same_view a b events));
  heard = λ a b events. (ap (λ (v : View). v.receiver_heard) (same_view a b events), ap (λ (v : View). v.sender_heard) (same_view a b events));
  may = λ hosts e events a b ours r h. legal hosts e events r a b ours h;
}
