use Rattle.std.proofs.Common.{ap, sym, ◌∙◌}
use Rattle.std.specs.FinMap as map
use Rattle.link_table.proofs.EntryLemmas.{entries_again}
use Rattle.link_table.proofs.flow_map.FlowMap.iter.Goals as goal

pub returns : goal.returns
returns g c = c.iter.ensures.rest ∙ sym (entries_again c.self.inside.flows.entries c.iter.ensures.ordered) ∙ ap map.entries c.self.view_is
