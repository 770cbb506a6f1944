use Rattle.net_sim.proofs.Common.{◌≡◌, take, opening_services}
use Rattle.net_sim.proofs.seat.opening_services.Given as goal

abbrev pub invariant-loop-host : goal.invariant-loop-host
invariant-loop-host l = l.all.items ≡ opening_services (take l.host-index l.hosts)
