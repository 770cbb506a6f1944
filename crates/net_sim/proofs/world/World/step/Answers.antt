use Rattle.net_sim.proofs.Common.{rules, ◌≡◌, [], ◌∙◌, StepGives, shown}
use Rattle.net_sim.proofs.Books.Same.{step_same}
use Rattle.net_sim.proofs.world.World.step.Goals as goal

pub invariant_of-self : goal.invariant_of-self
invariant_of-self g c =
    let none : c.args.self.now.strangers ≡ [] = search rules in
    let gives : StepGives (shown g.C.Carrier.calls) c.args.self.now c.args.event c.step.result c.step.new.self = search rules in
    step_same (shown g.C.Carrier.calls) c.args.event c.args.self.now c.step.result c.step.new.self gives ∙ none
