use Rattle.imp_node.proofs.Common.{refl, get-empty, flow_cmp, host, flow}
use Rattle.imp_channel.specs.Line.{submitted}
use Rattle.routing.specs.RouteTable.{next_of, distance_to, vector_of}
use Rattle.imp_node.proofs.law.worked_room.Goals as goal

pub returns : goal.returns
unfolding next_of submitted distance_to vector_of
returns c = record {
  counted = (refl, refl);
  lost = refl;
  asked_before = refl;
  dropped = refl;
  stored = refl;
  waiting = refl;
  repeated = refl;
  offered = rw (get-empty flow_cmp (flow (host 0 1) (host 0 2) 40)) refl;
  no_room = rw (get-empty flow_cmp (flow (host 0 1) (host 0 2) 40)) refl;
}
