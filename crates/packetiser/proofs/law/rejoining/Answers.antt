use Rattle.packetiser.proofs.Rejoining.{any_order, answered, still_held, room_of, undisturbed, still_there, interleaved, slot_added_other, slot_without_other, slot_without_same}
use Rattle.packetiser.proofs.law.rejoining.Goals as goal

pub returns : goal.returns
returns c = record {
  any_order = any_order;
  answered = answered;
  held = still_held;
  room = room_of;
  undisturbed = undisturbed;
  still_there = still_there;
  interleaved = interleaved;
  other_packets = slot_added_other;
  other_discards = slot_without_other;
  discarded = slot_without_same;
}
