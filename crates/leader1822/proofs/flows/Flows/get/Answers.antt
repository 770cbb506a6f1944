use Rattle.leader1822.proofs.Common.{ap, sym, ◌∙◌, get_flow}
use Rattle.std.specs.FinMap as map
use Rattle.leader1822.proofs.flows.Flows.get.Goals as goal

pub returns : goal.returns
returns c = c.copied.ensures ∙ c.get.ensures.value ∙ sym (get_flow c.self.inside.flows.entries c.args.flow.now) ∙ ap (λ m. map.get m c.args.flow.now) c.self.view_is
