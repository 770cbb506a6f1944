use Rattle.subnet.proofs.Common.{refl, get-empty, flow_cmp, ours}
use Rattle.imp_channel.specs.Line.{submitted}
use Rattle.link_table.specs.Numbers.{is_new, oldest, modulus, window}
use Rattle.routing.specs.RouteTable.{next_of, distance_to, vector_of}
use Rattle.subnet.proofs.law.worked_frames.Goals as goal

pub returns : goal.returns
unfolding next_of submitted distance_to vector_of is_new oldest modulus window
returns c = record {
  stays = rw (get-empty flow_cmp ours) refl;
  came = rw (get-empty flow_cmp ours) refl;
  dropped = refl;
  killed = (refl, refl);
  garbled = refl;
  ignored = (refl, refl);
  no_frame = (refl, refl, refl);
}
