use Rattle.net_sim.proofs.Common.{rules, TurnGives, shown}
use Rattle.net_sim.proofs.Books.Same.{turn_same}
use Rattle.net_sim.proofs.mixed_world.MixedWorld.turn.Goals as goal

pub returns-clause-strangers : goal.returns-clause-strangers
returns-clause-strangers g c =
    let gives : TurnGives (shown g.C.Carrier.calls) c.args.self.now c.args.event.now c.turn_near.result c.turn_near.new.self = search rules in
    turn_same (shown g.C.Carrier.calls) c.args.event.now c.args.self.now c.turn_near.result c.turn_near.new.self gives
