use Rattle.std.proofs.Common.{rules, not, ap, ◌∙◌}
use Rattle.std.proofs.lemmas.Map.Made.{filter_same_pairs}
use Rattle.link_table.specs.Keys.{drop_from, is_from}
use Rattle.link_table.proofs.KeyLemmas.{dropped}
use Rattle.link_table.proofs.flow_map.FlowMap.drop_from.Goals as goal

pub returns : goal.returns
returns g c =
    dropped c.args.imp c.self.inside.flows.entries c.retain.new.self.entries
    (filter_same_pairs _ (λ e. not (is_from c.args.imp e.0)) _ (λ k v b w f' t. search rules) _ _ c.retain.ensures.filtered)
    ∙ ap (drop_from c.args.imp) c.self.view_is
