use Rattle.std.proofs.Common.{◌≡◌, None, rules, ap, sym, ◌∙◌}
use Rattle.std.specs.FinMap as map
use Rattle.interface.proofs.lemmas.{get_flow, one_set}
use Rattle.leader1822.proofs.flows.Flows.set.Goals as goal

pub returns-in_err-insert-clause-fresh : goal.returns-in_err-insert-clause-fresh
returns-in_err-insert-clause-fresh c =
    let none : map.get c.args.self.now c.args.flow ≡ None =
    ap (λ m. map.get m c.args.flow) (sym c.self.view_is) ∙ get_flow c.self.inside.flows.entries c.args.flow ∙ c.in_err-insert.ensures.absent in
    search (rules, none)

pub returns-clause-ok : goal.returns-clause-ok
returns-clause-ok c =
    one_set c.self.inside.flows.entries c.insert.new.self.entries c.args.flow c.args.pending c.in_ok-insert.ensures.updates.0
    ∙ ap (λ m. map.insert m c.args.flow c.args.pending) c.self.view_is
