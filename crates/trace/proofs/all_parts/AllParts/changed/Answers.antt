use Rattle.trace.proofs.Common.{◌≡◌, ◌∙◌, ◌++◌, [], ap, codes, length, List, ℕ, IfOk-weaker, changed, changed_lists, changed_parts, extended, mark, object}
use Rattle.trace.proofs.Changes.Extending.{ended_object, extended_twice}
use Rattle.trace.proofs.all_parts.AllParts.changed.Goals as goal

pub returns : goal.returns
returns c =
    let before = c.args.before.now in
    let now = c.args.self.now in
    let text : List ℕ = c.in_ok-add_changed.field-0.items in
    let all : text ≡ extended [] (changed_parts before now) =
    c.in_ok-add_changed.ensures
    ∙ ap (λ (t : List ℕ). extended t (changed_lists before.flows now.flows))
    (c.in_ok-text.ensures ∙ ap (λ (t : List ℕ). extended t (changed before.fixed now.fixed)) c.new.ensures.items)
    ∙ extended_twice [] (changed before.fixed now.fixed) (changed_lists before.flows now.flows) in
    IfOk-weaker c.ended.result (λ t. t.items ≡ text ++ mark (codes "{}") (codes "}") (length text))
    (λ t. t.items ≡ object (changed_parts before now))
    (λ t is. is ∙ ended_object text (changed_parts before now) all) c.ended.ensures
