use Rattle.net_sim.proofs.Common.{◌≡◌, take, opening_seats}
use Rattle.net_sim.proofs.seat.opening_seats.Given as goal

abbrev pub invariant-loop-host : goal.invariant-loop-host
invariant-loop-host l = l.seats.items ≡ opening_seats (take l.host-index l.hosts)
