use Rattle.net_sim.proofs.Common.{shown, Calls}
use Rattle.net_sim.proofs.Hosts.Calming.{Passed}
use Rattle.net_sim.proofs.mixed_world.MixedWorld.calm.Given as goal

-- this many rounds have passed
abbrev pub invariant-loop : goal.invariant-loop
invariant-loop g l =
    let calls : Calls g.row.C.Denot = shown g.C.Carrier.calls in
    Passed calls l.rounds l.counter l.fn.self l.self
