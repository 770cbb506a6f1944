-- What is known of the flow of the worked rows, whose host has sent one message.
use Rattle.imp_node.proofs.Common.{◌≡◌, Option, Some, ap, ◌∙◌, flow_cmp, Standing, host, flow}
use Rattle.std.specs.Option.{option_map}
use Rattle.std.specs.FinMap as finite
use Rattle.link_table.specs.Flows.{number_in, begun, flow_answered, handed, given_up, answered_in, given_up_in, handed_in}
use Rattle.link_table.specs.declared.source.Standing.TheVariants as standing
use Rattle.link_table.proofs.lemmas.{get_answered, get_begun, get_given_up, get_handed}

-- the state of the flow, step by step
pub is_begun : finite.get (begun finite.empty (flow (host 0 1) (host 0 2) 7)) (flow (host 0 1) (host 0 2) 7) ≡ Some (standing.Outstanding 0)
is_begun =
    get_begun _ _ _
    ∙ ap (λ (s : Option Standing). Some (standing.Outstanding (number_in s))) (finite.get-empty flow_cmp (flow (host 0 1) (host 0 2) 7))

pub is_answered : finite.get (flow_answered (begun finite.empty (flow (host 0 1) (host 0 2) 7)) (flow (host 0 1) (host 0 2) 7) 0) (flow (host 0 1) (host 0 2) 7) ≡ Some (standing.Answered 0)
is_answered =
    get_answered _ _ _ 0
    ∙ ap (option_map (answered_in 0)) is_begun

pub is_taken : finite.get (handed (flow_answered (begun finite.empty (flow (host 0 1) (host 0 2) 7)) (flow (host 0 1) (host 0 2) 7) 0) (flow (host 0 1) (host 0 2) 7)) (flow (host 0 1) (host 0 2) 7) ≡ Some (standing.Idle 0)
is_taken =
    get_handed _ _ _
    ∙ ap (option_map handed_in) is_answered

pub is_given_up : finite.get (given_up (begun finite.empty (flow (host 0 1) (host 0 2) 7)) (flow (host 0 1) (host 0 2) 7)) (flow (host 0 1) (host 0 2) 7) ≡ Some (standing.Answered 0)
is_given_up =
    get_given_up _ _ _
    ∙ ap (option_map given_up_in) is_begun

pub is_idle_again : finite.get (handed (given_up (begun finite.empty (flow (host 0 1) (host 0 2) 7)) (flow (host 0 1) (host 0 2) 7)) (flow (host 0 1) (host 0 2) 7)) (flow (host 0 1) (host 0 2) 7) ≡ Some (standing.Idle 0)
is_idle_again =
    get_handed _ _ _
    ∙ ap (option_map handed_in) is_given_up

-- and of one within an IMP
pub is_begun_within : finite.get (begun finite.empty (flow (host 0 1) (host 1 1) 7)) (flow (host 0 1) (host 1 1) 7) ≡ Some (standing.Outstanding 0)
is_begun_within =
    get_begun _ _ _
    ∙ ap (λ (s : Option Standing). Some (standing.Outstanding (number_in s))) (finite.get-empty flow_cmp (flow (host 0 1) (host 1 1) 7))
