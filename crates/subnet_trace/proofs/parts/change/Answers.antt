use Rattle.subnet_trace.proofs.Common.{◌≡◌, ◌∙◌, ◌++◌, [], List, ap, codes, length, ℕ, IfOk-weaker, Net, all_parts, parts_members, all_flows, parts_of_net, mark, extended, object}
use Rattle.trace.specs.Changes.{changed_lists, changed_parts, changed}
use Rattle.trace.proofs.lemmas.{extended_twice, ended_object}
use Rattle.subnet_trace.proofs.parts.change.Goals as goal

pub returns-clause-changed : goal.returns-clause-changed
returns-clause-changed c =
    let n : Net = c.args.subnet.now.net in
    let before = c.args.known.now in
    let fixed : List (List ℕ) = changed before.fixed (parts_members n (all_parts n)) in
    let flows : List (List ℕ) = changed_lists before.flows (all_flows n) in
    let text : List ℕ = c.in_ok-change_flows.field-0.items in
    let all : text ≡ extended [] (changed_parts before (parts_of_net n)) =
    c.in_ok-change_flows.ensures.changed ∙ ap (λ (t : List ℕ). extended t flows) c.in_ok-text.ensures.changed ∙ extended_twice [] fixed flows in
    IfOk-weaker c.ended.result (λ t. t.items ≡ text ++ mark (codes "{}") (codes "}") (length text)) (λ t. t.items ≡ object (changed_parts before (parts_of_net n))) (λ t is. is ∙ ended_object text (changed_parts before (parts_of_net n)) all) c.ended.ensures
