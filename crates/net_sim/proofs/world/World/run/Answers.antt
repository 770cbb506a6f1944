use Rattle.net_sim.proofs.Common.{rules, ◌≡◌, [], ◌∙◌, RunGives, shown}
use Rattle.net_sim.proofs.Books.Same.{run_same}
use Rattle.net_sim.proofs.world.World.run.Goals as goal

pub invariant_of-self : goal.invariant_of-self
invariant_of-self g c =
    let none : c.args.self.now.strangers ≡ [] = search rules in
    let gives : RunGives (shown g.C.Carrier.calls) c.args.self.now c.args.events.items c.run.result c.run.new.self = search rules in
    run_same (shown g.C.Carrier.calls) c.args.events.items c.args.self.now c.run.result c.run.new.self gives ∙ none
