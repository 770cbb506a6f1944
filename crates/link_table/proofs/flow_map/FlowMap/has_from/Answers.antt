use Rattle.std.proofs.Common.{rules, tests, ap, ◌∙◌, ◌≡◌}
use Rattle.std.specs.List.{list_any}
use Rattle.std.specs.Map.{keys_of}
use Rattle.std.proofs.lemmas.Iterator.Search.{any_from_yields_List}
use Rattle.std.proofs.lemmas.Iterator.Consumers.{YieldsList-from_rest}
use Rattle.link_table.specs.Keys.{has_from, is_from}
use Rattle.link_table.proofs.KeyLemmas.{asked}
use Rattle.link_table.proofs.flow_map.FlowMap.has_from.Goals as goal

pub returns : goal.returns
returns g c =
    let found : c.any.result ≡ list_any (is_from c.args.imp) (keys_of c.self.inside.flows.entries) =
    any_from_yields_List (is_from c.args.imp) _ _ c.any.result c.any.ensures.ran (YieldsList-from_rest (keys_of c.self.inside.flows.entries) c.keys.ensures.rest) (λ x b q k. search (rules, tests)) in
    found ∙ asked c.args.imp c.self.inside.flows.entries ∙ ap (has_from c.args.imp) c.self.view_is
