use Rattle.trace.proofs.Common.{◌≡◌, ◌∙◌, ap, map, IfOk-weaker, gone, told, extended}
use Rattle.trace.specs.Changes.{altered, changed_flows, lost}
use Rattle.trace.proofs.Changes.Extending.{extended_twice}
use Rattle.trace.proofs.flow_lists.add_changed.Goals as goal

pub returns : goal.returns
returns c =
    let before = c.args.before.now in
    let now = c.args.now.now in
    IfOk-weaker c.add_lost.result
    (λ text. text.items ≡ extended c.in_ok-add_altered.field-0.items (map gone (lost before now)))
    (λ text. text.items ≡ extended c.args.object.items (changed_flows before now))
    (λ text is. is ∙ ap (λ t. extended t (map gone (lost before now))) c.in_ok-add_altered.ensures
    ∙ extended_twice c.args.object.items (map told (altered before now))
    (map gone (lost before now))) c.add_lost.ensures
