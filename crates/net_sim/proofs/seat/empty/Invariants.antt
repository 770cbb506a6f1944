use Rattle.net_sim.proofs.Common.{◌≡◌, ◌++◌, take, drop, no_services, serviced}
use Rattle.net_sim.proofs.seat.empty.Given as goal

abbrev pub invariant-loop-services : goal.invariant-loop-services
invariant-loop-services l = l.all ≡ serviced l.host no_services (take l.services-index l.fn.all) ++ drop l.services-index l.fn.all
