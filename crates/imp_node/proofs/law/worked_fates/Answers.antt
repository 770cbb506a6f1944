use Rattle.imp_node.proofs.Common.{◌≡◌, ℕ, Some, refl, ap, ◌∙◌, flow_cmp, Fate, host, flow}
use Rattle.std.specs.Option.{option_map}
use Rattle.std.specs.FinMap as finite
use Rattle.imp_channel.specs.Line.{submitted}
use Rattle.link_table.specs.Flows.{begun, flow_answered, handed, noted, ended_in}
use Rattle.link_table.specs.Numbers.{modulus, window, is_new}
use Rattle.link_table.specs.declared.destination.Fate.TheVariants as fate
use Rattle.link_table.proofs.lemmas.{get_ended, get_put}
use Rattle.routing.specs.RouteTable.{next_of, distance_to, vector_of}
use Rattle.imp_node.proofs.law.worked_fates.Goals as goal

-- what is kept of the flow after a number of it was noted
is_noted : (n : ℕ) (new : Fate) → finite.get (noted finite.empty (flow (host 0 2) (host 0 1) 2) n new) (flow (host 0 2) (host 0 1) 2) ≡ Some (record { number = n; fate = new })
is_noted n new = get_put finite.empty (flow (host 0 2) (host 0 1) 2) (flow (host 0 2) (host 0 1) 2) (record { number = n; fate = new })

pub returns : goal.returns
unfolding next_of submitted distance_to vector_of begun flow_answered handed is_new modulus window
returns c = record {
  unmarked = rw (finite.get-empty flow_cmp (flow (host 0 2) (host 0 1) 2)) (is_noted 0 fate.Never);
  unmarked_asked = rw (finite.get-empty flow_cmp (flow (host 0 2) (host 0 1) 2), is_noted 0 fate.Never) refl;
  stopped =
      get_ended (noted finite.empty (flow (host 0 2) (host 0 1) 2) 0 fate.Waits) (flow (host 0 2) (host 0 1) 2)
      (flow (host 0 2) (host 0 1) 2) 0 fate.Dead ∙ ap (option_map (ended_in 0 fate.Dead)) (is_noted 0 fate.Waits);
  older_stopped =
      get_ended (noted finite.empty (flow (host 0 2) (host 0 1) 2) 5 fate.Waits) (flow (host 0 2) (host 0 1) 2)
      (flow (host 0 2) (host 0 1) 2) 0 fate.Dead ∙ ap (option_map (ended_in 0 fate.Dead)) (is_noted 5 fate.Waits);
  older_taken =
      get_ended (noted finite.empty (flow (host 0 2) (host 0 1) 2) 5 fate.Waits) (flow (host 0 2) (host 0 1) 2)
      (flow (host 0 2) (host 0 1) 2) 0 fate.Taken ∙ ap (option_map (ended_in 0 fate.Taken)) (is_noted 5 fate.Waits);
  repeat_frees = rw (finite.get-empty flow_cmp (flow (host 0 2) (host 0 1) 2)) refl;
  repeat_keeps =
      rw (
        finite.get-empty flow_cmp (flow (host 0 1) (host 0 2) 7),
        finite.get-empty flow_cmp
            (flow (host 0 2) (host 0 1) 2),
      ) refl;
}
