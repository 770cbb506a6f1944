use Rattle.net_sim.proofs.Common.{Ok, shown, WorldState, Calls}
use Rattle.net_sim.proofs.Hosts.Calming.{begun, none_passed}
use Rattle.net_sim.proofs.Hosts.Resting.{rest_passed}
use Rattle.net_sim.proofs.mixed_world.MixedWorld.rests.Goals as goal

pub returns-clause-unchanged : goal.returns-clause-unchanged
returns-clause-unchanged g c = λ rests times.
    let calls : Calls g.row.C.Denot = shown g.C.Carrier.calls in
    let w : WorldState g.row.C.Denot = c.args.self.now in
    begun calls times w (Ok tt) w (c.has_calmed.ensures rests).running (rest_passed calls times 0 w w (none_passed calls times w) (c.has_calmed.ensures rests))

pub returns-clause-running : goal.returns-clause-running
returns-clause-running g c = λ rests. (c.has_calmed.ensures rests).running
