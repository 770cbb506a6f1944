use Rattle.net_sim.proofs.Common.{rules, ◌≡◌, ◌∷◌, List, true, false, subst, shown, Calls}
use Rattle.net_sim.specs.Steps.{Runs}
use Rattle.net_sim.specs.World.{Event, stops}
use Rattle.net_sim.proofs.Books.RunLoop.{run_ends, run_more, runs_on}
use Rattle.net_sim.proofs.mixed_world.MixedWorld.run.Goals as goal

pub loop-event-init : goal.loop-event-init
loop-event-init g c =
    let calls : Calls g.row.C.Denot = g.C.Carrier.calls in
    let gives : c.into_iter-event-iterator.result.rest.items ≡ c.args.events.items = search rules in
    λ r new rest. subst (λ (es : List Event). Runs (shown calls) c.args.self.now es r new) gives rest

pub returns-then-stops : goal.returns-then-stops
returns-then-stops g c =
    let calls : Calls g.row.C.Denot = g.C.Carrier.calls in
    let left : List Event = c.loop-event.event-iterator.rest.items in
    let later : List Event = c.next.new.self.rest.items in
    let is : left ≡ c.in-Some.event ∷ later = c.in-Some.ensures.steps.0 in
    let off : stops c.step-done.result ≡ true = search rules in
    runs_on (shown calls) c.args.events.items c.args.self.now c.step-done.result c.step-done.new.self (search rules)
    (c.loop-event.invariant c.step-done.result c.step-done.new.self
    (run_ends (shown calls) left later c.in-Some.event is c.loop-event.self c.step-done.new.self c.step-done.result
    c.step-done.ensures off))

pub loop-event-preserved : goal.loop-event-preserved
loop-event-preserved g c =
    let calls : Calls g.row.C.Denot = g.C.Carrier.calls in
    let left : List Event = c.loop-event.event-iterator.rest.items in
    let later : List Event = c.next.new.self.rest.items in
    let is : left ≡ c.in-Some.event ∷ later = c.in-Some.ensures.steps.0 in
    let on : stops c.step-done.result ≡ false = search rules in
    λ r new rest. c.loop-event.invariant r new
    (run_more (shown calls) left later c.in-Some.event is c.loop-event.self c.step-done.new.self c.step-done.result
    c.step-done.ensures on r new rest)
