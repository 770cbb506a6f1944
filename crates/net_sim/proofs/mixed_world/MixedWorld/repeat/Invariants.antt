use Rattle.net_sim.proofs.Common.{shown, Calls}
use Rattle.net_sim.proofs.Hosts.Calming.{Repeated}
use Rattle.net_sim.proofs.mixed_world.MixedWorld.repeat.Given as goal

-- something has crossed each time
abbrev pub invariant-loop : goal.invariant-loop
invariant-loop g l =
    let calls : Calls g.row.C.Denot = shown g.C.Carrier.calls in
    Repeated calls l.event l.times l.counter l.fn.self l.self
