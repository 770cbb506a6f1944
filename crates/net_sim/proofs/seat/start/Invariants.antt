use Rattle.net_sim.proofs.Common.{◌≡◌, ◌++◌, take, drop, Some, seated, opening_state}
use Rattle.net_sim.proofs.seat.start.Given as goal

abbrev pub invariant-loop-seat : goal.invariant-loop-seat
invariant-loop-seat l = l.seats ≡ seated l.host (Some (opening_state l.host)) (take l.seat-index l.fn.seats) ++ drop l.seat-index l.fn.seats
