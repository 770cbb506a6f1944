use Rattle.std.proofs.Common.{ap, ◌∙◌}
use Rattle.std.specs.FinMap as map
use Rattle.interface.proofs.lemmas.{one_removed}
use Rattle.leader1822.proofs.flows.Flows.remove.Goals as goal

pub returns : goal.returns
returns c =
    one_removed c.self.inside.flows.entries c.remove.new.self.entries c.args.flow.now c.remove.ensures.updates.0
    ∙ ap (λ m. map.remove m c.args.flow.now) c.self.view_is
