use Rattle.world_trace.proofs.Common.{◌≡◌, ◌++◌, ◌∙◌, [], List, ap, codes, length, ℕ, object, IfOk-weaker}
use Rattle.trace.specs.Joined.{mark, extended}
use Rattle.trace.proofs.lemmas.{ended_object}
use Rattle.trace.specs.Changes.{changed}
use Rattle.world_trace.proofs.texts.changed_object.Goals as goal

pub returns : goal.returns
returns c =
    let all : List (List ℕ) = changed c.args.before.now c.args.now.now in
    let text : List ℕ = c.in_ok-add_changed.field-0.items in
    let is : text ≡ extended [] all = c.in_ok-add_changed.ensures ∙ ap (λ (t : List ℕ). extended t all) c.new.ensures.items in
    IfOk-weaker c.ended.result (λ t. t.items ≡ text ++ mark (codes "{}") (codes "}") (length text))
    (λ t. t.items ≡ object all) (λ t ends. ends ∙ ended_object text all is) c.ended.ensures
