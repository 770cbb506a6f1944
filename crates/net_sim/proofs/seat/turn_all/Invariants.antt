use Rattle.net_sim.proofs.Common.{◌≡◌, drop, turned_in_order}
use Rattle.net_sim.proofs.seat.turn_all.Given as goal

abbrev pub invariant-loop-crossing : goal.invariant-loop-crossing
invariant-loop-crossing l = turned_in_order (drop l.crossing-index l.crossings) l.seats ≡ turned_in_order l.crossings l.fn.seats
