use Rattle.net_sim.proofs.Common.{◌≡◌, true, false, sym, ◌∙◌, shown, stops, Calls}
use Rattle.net_sim.proofs.Hosts.Calming.{stop_turn, whole_turn}
use Rattle.net_sim.proofs.mixed_world.MixedWorld.take_turn.Goals as goal

pub returns-then-stops : goal.returns-then-stops
returns-then-stops g c =
    let calls : Calls g.row.C.Denot = shown g.C.Carrier.calls in
    let is : stops c.repeat-answer.result ≡ true = sym c.stops.ensures ∙ c.if-stops.true in
    stop_turn calls c.args.host c.args.self.now c.repeat-answer.new.self c.repeat-answer.result c.repeat-answer.ensures is

pub returns : goal.returns
returns g c =
    let calls : Calls g.row.C.Denot = shown g.C.Carrier.calls in
    let on : stops c.repeat-answer.result ≡ false = sym c.stops.ensures ∙ c.if-stops.false in
    whole_turn calls c.args.host c.args.self.now c.repeat-answer.new.self c.repeat.new.self c.repeat-answer.result c.repeat.result c.repeat-answer.ensures on c.repeat.ensures
