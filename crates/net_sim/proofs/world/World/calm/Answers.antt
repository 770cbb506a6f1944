use Rattle.net_sim.proofs.Common.{rules, ◌≡◌, [], ◌∙◌, CalmGives, shown}
use Rattle.net_sim.proofs.Books.Same.{calm_same}
use Rattle.net_sim.proofs.world.World.calm.Goals as goal

pub invariant_of-self : goal.invariant_of-self
invariant_of-self g c =
    let none : c.args.self.now.strangers ≡ [] = search rules in
    let gives : CalmGives (shown g.C.Carrier.calls) c.args.rounds c.args.self.now c.calm.result c.calm.new.self = search rules in
    calm_same (shown g.C.Carrier.calls) c.args.rounds c.args.self.now c.calm.result c.calm.new.self gives ∙ none
