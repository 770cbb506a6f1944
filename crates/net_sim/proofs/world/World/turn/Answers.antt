use Rattle.net_sim.proofs.Common.{rules, ◌≡◌, [], ◌∙◌, TurnGives, shown}
use Rattle.net_sim.proofs.Books.Same.{turn_same}
use Rattle.net_sim.proofs.world.World.turn.Goals as goal

pub invariant_of-self : goal.invariant_of-self
invariant_of-self g c =
    let none : c.args.self.now.strangers ≡ [] = search rules in
    let gives : TurnGives (shown g.C.Carrier.calls) c.args.self.now c.args.event.now c.turn.result c.turn.new.self = search rules in
    turn_same (shown g.C.Carrier.calls) c.args.event.now c.args.self.now c.turn.result c.turn.new.self gives ∙ none
