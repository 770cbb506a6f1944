use Rattle.imp_node.proofs.Common.{◌≡◌, Option, Some, refl, ap, ◌∙◌, get, empty, get-empty, flow_cmp, Standing, host, flow}
use Rattle.imp_channel.specs.Line.{submitted}
use Rattle.link_table.specs.Flows.{number_in, begun, flow_answered, handed}
use Rattle.link_table.specs.Numbers.{is_new}
use Rattle.link_table.specs.declared.source.Standing.TheVariants as standing
use Rattle.link_table.proofs.lemmas.{get_begun}
use Rattle.routing.specs.RouteTable.{next_of, distance_to, vector_of}
use Rattle.imp_node.proofs.law.worked_hosts.Goals as goal

-- the seventeenth message is outstanding
is_begun : get (begun empty (flow (host 0 1) (host 1 1) 17)) (flow (host 0 1) (host 1 1) 17) ≡ Some (standing.Outstanding 0)
is_begun =
    get_begun empty (flow (host 0 1) (host 1 1) 17) (flow (host 0 1) (host 1 1) 17)
    ∙ ap (λ (s : Option Standing). Some (standing.Outstanding (number_in s))) (get-empty flow_cmp (flow (host 0 1) (host 1 1) 17))

pub returns : goal.returns
unfolding next_of submitted distance_to vector_of begun flow_answered handed is_new
returns c = record {
  nowhere = refl;
  nothing_sent = refl;
  accepted = rw (get-empty flow_cmp (flow (host 0 1) (host 0 2) 7)) refl;
  blocked = rw (get-empty flow_cmp (flow (host 0 1) (host 0 2) 7)) refl;
  away = rw (get-empty flow_cmp (flow (host 0 1) (host 0 2) 7)) refl;
  within = rw (get-empty flow_cmp (flow (host 0 1) (host 1 1) 17)) refl;
  queue_full = rw (get-empty flow_cmp (flow (host 0 1) (host 1 1) 18)) refl;
  here = rw (get-empty flow_cmp (flow (host 0 1) (host 1 1) 17)) refl;
  blocked_first = rw is_begun refl;
  other_imp = refl;
  other_host = refl;
  taken = refl;
  rfnm = refl;
  needs_no_room = refl;
  given_up = rw (get-empty flow_cmp (flow (host 0 1) (host 1 1) 2)) refl;
  dead = rw (get-empty flow_cmp (flow (host 0 1) (host 0 1) 2)) refl;
  cleared = refl;
  dead_with_room = refl;
  gives = (refl, refl);
  gives_nothing = (refl, refl, refl);
  nothing = (refl, refl, refl);
}
