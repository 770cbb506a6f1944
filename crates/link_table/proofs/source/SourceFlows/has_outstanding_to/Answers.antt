use Rattle.std.proofs.Common.{rules, tests, ap, ◌∙◌}
use Rattle.std.specs.FinMap as map
use Rattle.std.proofs.lemmas.Iterator.Search.{any_from_yields_List}
use Rattle.std.proofs.lemmas.Iterator.Consumers.{YieldsList-from_rest}
use Rattle.link_table.specs.Flows.{is_outstanding_to, has_outstanding_to}
use Rattle.link_table.proofs.source.SourceFlows.has_outstanding_to.Goals as goal

pub returns : goal.returns
unfolding has_outstanding_to
returns c =
    any_from_yields_List (is_outstanding_to c.args.imp) _ _ c.any.result c.any.ensures.ran (YieldsList-from_rest (map.entries c.self.inside.flows) c.iter.ensures) (λ x b q k. search (rules, tests))
    ∙ ap (has_outstanding_to c.args.imp) c.self.view_is
