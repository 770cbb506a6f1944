use Rattle.net_sim.proofs.Common.{shown, Calls}
use Rattle.net_sim.proofs.Hosts.Calming.{Turned}
use Rattle.net_sim.proofs.mixed_world.MixedWorld.pass_round.Given as goal

-- the hosts before this place have had their turns
abbrev pub invariant-loop-at : goal.invariant-loop-at
invariant-loop-at g l =
    let calls : Calls g.row.C.Denot = shown g.C.Carrier.calls in
    Turned calls l.initial.self l.at l.self
