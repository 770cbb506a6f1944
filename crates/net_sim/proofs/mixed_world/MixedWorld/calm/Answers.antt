use Rattle.net_sim.proofs.Common.{◌≡◌, ◌+◌, true, false, Ok, sym, ◌∙◌, shown, stops, Calls}
use Rattle.net_sim.proofs.Hosts.Calming.{begun, none_passed, one_passed, stop_passed, all_passed}
use Rattle.net_sim.proofs.Hosts.Resting.{rest_passed}
use Rattle.net_sim.proofs.mixed_world.MixedWorld.calm.Goals as goal

pub returns-then-stops : goal.returns-then-stops
returns-then-stops g c =
    let calls : Calls g.row.C.Denot = shown g.C.Carrier.calls in
    let is : stops c.pass_round-answer.result ≡ true = sym c.stops.ensures ∙ c.if-stops.true in
    begun calls c.args.rounds c.args.self.now c.pass_round-answer.result c.pass_round-answer.new.self (sym c.is_stopped.ensures ∙ c.if-is_stopped.false)
    (stop_passed calls c.args.rounds c.loop.counter c.args.self.now c.loop.self c.pass_round-answer.new.self c.pass_round-answer.result c.loop-test.true c.loop.invariant c.pass_round-answer.ensures is)

pub returns-then-has_calmed : goal.returns-then-has_calmed
returns-then-has_calmed g c =
    let calls : Calls g.row.C.Denot = shown g.C.Carrier.calls in
    let on : stops c.pass_round-answer.result ≡ false = sym c.stops.ensures ∙ c.if-stops.false in
    begun calls c.args.rounds c.args.self.now (Ok tt) c.pass_round-answer.new.self (sym c.is_stopped.ensures ∙ c.if-is_stopped.false)
    (rest_passed calls c.args.rounds (c.loop.counter + 1) c.args.self.now c.pass_round-answer.new.self
    (one_passed calls c.args.rounds c.loop.counter c.args.self.now c.loop.self c.pass_round-answer.new.self c.pass_round-answer.result c.loop-test.true c.loop.invariant c.pass_round-answer.ensures on)
    (c.has_calmed.ensures c.if-has_calmed.true))

pub loop-init : goal.loop-init
loop-init g c =
    let calls : Calls g.row.C.Denot = shown g.C.Carrier.calls in
    none_passed calls c.args.rounds c.args.self.now

pub loop-preserved : goal.loop-preserved
loop-preserved g c =
    let calls : Calls g.row.C.Denot = shown g.C.Carrier.calls in
    let on : stops c.pass_round-answer.result ≡ false = sym c.stops.ensures ∙ c.if-stops.false in
    one_passed calls c.args.rounds c.loop.counter c.args.self.now c.loop.self c.pass_round-answer.new.self c.pass_round-answer.result c.loop-test.true c.loop.invariant c.pass_round-answer.ensures on

pub returns : goal.returns
returns g c =
    let calls : Calls g.row.C.Denot = shown g.C.Carrier.calls in
    begun calls c.args.rounds c.args.self.now (Ok tt) c.loop.self (sym c.is_stopped.ensures ∙ c.if-is_stopped.false) (all_passed calls c.args.rounds c.loop.counter c.args.self.now c.loop.self c.loop-test.false c.loop.invariant)
