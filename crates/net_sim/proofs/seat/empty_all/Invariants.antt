use Rattle.net_sim.proofs.Common.{◌≡◌, drop, emptied_in_order}
use Rattle.net_sim.proofs.seat.empty_all.Given as goal

abbrev pub invariant-loop-crossing : goal.invariant-loop-crossing
invariant-loop-crossing l = emptied_in_order (drop l.crossing-index l.crossings) l.all ≡ emptied_in_order l.crossings l.fn.all
