use Rattle.imp_node.proofs.Common.{refl, get-empty, flow_cmp, host, flow}
use Rattle.imp_channel.specs.Line.{submitted}
use Rattle.routing.specs.RouteTable.{next_of, distance_to, vector_of}
use Rattle.imp_node.proofs.law.worked_answers.Goals as goal

pub returns : goal.returns
unfolding next_of submitted distance_to vector_of
returns c = record {
  host_not_there = (refl, refl, refl);
  host_is_down = (refl, refl);
  host_is_up = refl;
  end_not_there = (refl, refl, refl);
  end_is_down = refl;
  end_is_up = refl;
  own_numbers = (refl, refl);
  slots = (refl, refl);
  no_room = refl;
  ignored = refl;
  in_channel = (refl, refl);
  waiting = (refl, refl);
  in_slot = refl;
  in_queue = (refl, refl);
  packet_held = (refl, refl);
  no_packet_held = (refl, refl);
  answers_aside = refl;
  «data» = (refl, refl, refl, refl, refl);
  no_data = (refl, refl);
  questions = (refl, refl);
  begins = (
    rw (get-empty flow_cmp (flow (host 0 1) (host 0 2) 7)) refl,
    rw (get-empty flow_cmp (flow (host 0 1) (host 1 1) 7)) refl,
  );
  begins_none = (
    rw (get-empty flow_cmp (flow (host 0 1) (host 0 2) 7)) refl,
    refl,
    rw (get-empty flow_cmp (flow (host 0 1) (host 2 1) 7)) refl,
  );
}
