use Rattle.std.proofs.Common.{◌≡◌, None, rules, ap, sym, ◌∙◌}
use Rattle.std.specs.FinMap as map
use Rattle.interface.proofs.lemmas.{get_flow, one_set}
use Rattle.link_table.proofs.flow_map.FlowMap.set.Goals as goal

pub returns-in_err-insert-clause-fresh : goal.returns-in_err-insert-clause-fresh
returns-in_err-insert-clause-fresh g c =
    let none : map.get c.args.self.now c.args.flow ≡ None =
    ap (λ m. map.get m c.args.flow) (sym c.self.view_is) ∙ get_flow c.self.inside.flows.entries c.args.flow ∙ c.in_err-insert.ensures.absent in
    search (rules, none)

pub returns-clause-ok : goal.returns-clause-ok
returns-clause-ok g c =
    one_set c.self.inside.flows.entries c.insert.new.self.entries c.args.flow c.args.value c.in_ok-insert.ensures.updates.0
    ∙ ap (λ m. map.insert m c.args.flow c.args.value) c.self.view_is
