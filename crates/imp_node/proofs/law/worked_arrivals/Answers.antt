use Rattle.imp_node.proofs.Common.{refl, get-empty, flow_cmp, host, flow}
use Rattle.imp_channel.specs.Line.{submitted}
use Rattle.link_table.specs.Flows.{begun, flow_answered, handed}
use Rattle.link_table.specs.Numbers.{is_new}
use Rattle.routing.specs.RouteTable.{next_of, distance_to, vector_of}
use Rattle.imp_node.proofs.law.worked_arrivals.Goals as goal

pub returns : goal.returns
unfolding next_of submitted distance_to vector_of begun flow_answered handed is_new
returns c = record {
  queued = rw (get-empty flow_cmp (flow (host 0 2) (host 0 1) 2)) refl;
  acknowledged = rw (get-empty flow_cmp (flow (host 0 2) (host 0 1) 2)) refl;
  sixteen = rw (get-empty flow_cmp (flow (host 0 2) (host 0 1) 50)) refl;
  lost = rw (get-empty flow_cmp (flow (host 0 2) (host 0 1) 50)) refl;
  unmarked = rw (get-empty flow_cmp (flow (host 0 2) (host 0 1) 50)) refl;
  no_message = rw (get-empty flow_cmp (flow (host 0 2) (host 0 1) 50)) refl;
  no_slot = rw (get-empty flow_cmp (flow (host 0 2) (host 0 1) 8)) refl;
  eighth_slot = rw (get-empty flow_cmp (flow (host 0 2) (host 0 1) 7)) refl;
  undeliverable = rw (get-empty flow_cmp (flow (host 0 2) (host 2 1) 5)) refl;
  dead_has_room = rw (get-empty flow_cmp (flow (host 0 3) (host 2 1) 5)) refl;
  dead_is_dropped = rw (get-empty flow_cmp (flow (host 0 5) (host 2 1) 5)) refl;
  slot_cleared = rw (get-empty flow_cmp (flow (host 0 2) (host 0 1) 1)) refl;
  stale = rw (get-empty flow_cmp (flow (host 0 1) (host 0 2) 5)) refl;
  none_told = rw (get-empty flow_cmp (flow (host 0 1) (host 0 2) 5)) refl;
}
