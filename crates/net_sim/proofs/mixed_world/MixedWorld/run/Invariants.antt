use Rattle.net_sim.proofs.Common.{shown, Calls, WorldFault, WorldState}
use Rattle.std.specs.Prelude.{Result}
use Rattle.net_sim.specs.Steps.{Runs}
use Rattle.net_sim.proofs.mixed_world.MixedWorld.run.Given as goal

-- what comes of the events that are left comes of all
abbrev pub invariant-loop-event : goal.invariant-loop-event
invariant-loop-event g l =
    let calls : Calls g.row.C.Denot = g.C.Carrier.calls in
    (r : Result (Unit {0}) WorldFault) (new : WorldState g.row.C.Denot)
    → Runs (shown calls) l.self l.event-iterator.rest.items r new
    → Runs (shown calls) l.fn.self l.fn.events.items r new
