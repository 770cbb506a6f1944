use Rattle.net_sim.proofs.Common.{sym, ◌∙◌, arith, shown, Calls}
use Rattle.net_sim.proofs.Hosts.Calming.{one_counted, none_counted, stop_repeated, all_repeated}
use Rattle.net_sim.proofs.mixed_world.MixedWorld.repeat.Goals as goal

pub returns-then-stops : goal.returns-then-stops
returns-then-stops g c =
    let calls : Calls g.row.C.Denot = shown g.C.Carrier.calls in
    stop_repeated calls c.args.event.now c.args.times c.loop.counter c.args.self.now c.loop.self c.turn_near-answer.new.self c.turn_near-answer.result
    c.loop-test.true c.loop.invariant c.turn_near-answer.ensures (sym c.stops.ensures ∙ c.if-stops.true)

pub returns-then-crossed-before : goal.returns-then-crossed-before
returns-then-crossed-before g c =
    let calls : Calls g.row.C.Denot = shown g.C.Carrier.calls in
    none_counted calls c.args.event.now c.args.times c.loop.counter c.args.self.now c.loop.self c.turn_near-answer.new.self c.turn_near-answer.result
    c.loop-test.true c.loop.invariant c.turn_near-answer.ensures (sym c.stops.ensures ∙ c.if-stops.false) _ _
    c.crossed-before.ensures c.crossed.ensures (omega (arith, c.if-crossed-before.true))

pub loop-preserved : goal.loop-preserved
loop-preserved g c =
    let calls : Calls g.row.C.Denot = shown g.C.Carrier.calls in
    one_counted calls c.args.event.now c.args.times c.loop.counter c.args.self.now c.loop.self c.turn_near-answer.new.self c.turn_near-answer.result
    c.loop-test.true c.loop.invariant c.turn_near-answer.ensures (sym c.stops.ensures ∙ c.if-stops.false) _ _
    c.crossed-before.ensures c.crossed.ensures (omega (arith, c.if-crossed-before.false))

pub returns : goal.returns
returns g c =
    let calls : Calls g.row.C.Denot = shown g.C.Carrier.calls in
    all_repeated calls c.args.event.now c.args.times c.loop.counter c.args.self.now c.loop.self c.loop-test.false c.loop.invariant
