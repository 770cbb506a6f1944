use Rattle.std.proofs.Common.{ap, ◌∙◌}
use Rattle.std.specs.FinMap as map
use Rattle.interface.proofs.lemmas.{one_set}
use Rattle.book_judge.proofs.flow_map.FlowMap.set.Goals as goal

pub returns : goal.returns
returns g c =
    one_set c.self.inside.flows.entries c.insert.new.self.entries c.args.flow c.args.value c.in_ok-insert.ensures.updates.0
    ∙ ap (λ m. map.insert m c.args.flow c.args.value) c.self.view_is
