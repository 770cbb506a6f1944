use Rattle.net_sim.proofs.Common.{◌≡◌, false, take, list_any, is_source}
use Rattle.std.proofs.Common.{reverse}
use Rattle.net_sim.proofs.auditing.streams.has_source.Given as goal

abbrev pub invariant-loop-y : goal.invariant-loop-y
invariant-loop-y l = list_any (is_source (reverse l.log) l.asked l.x) (take l.y-index l.lives) ≡ false
