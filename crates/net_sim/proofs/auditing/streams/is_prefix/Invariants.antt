use Rattle.net_sim.proofs.Common.{◌≡◌, drop, is_prefix}
use Rattle.net_sim.proofs.auditing.streams.is_prefix.Given as goal

abbrev pub invariant-loop-i : goal.invariant-loop-i
invariant-loop-i l = is_prefix (drop l.i l.bits) (drop l.i l.other) ≡ is_prefix l.bits l.other
