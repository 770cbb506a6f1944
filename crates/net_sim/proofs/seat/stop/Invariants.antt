use Rattle.net_sim.proofs.Common.{◌≡◌, ◌++◌, take, drop, None, seated}
use Rattle.net_sim.proofs.seat.stop.Given as goal

abbrev pub invariant-loop-seat : goal.invariant-loop-seat
invariant-loop-seat l = l.seats ≡ seated l.host None (take l.seat-index l.fn.seats) ++ drop l.seat-index l.fn.seats
