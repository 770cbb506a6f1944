use Rattle.net_sim.proofs.Common.{◌≡◌, true, take, list_all, has_granted}
use Rattle.std.proofs.Common.{reverse}
use Rattle.net_sim.proofs.auditing.grants.excess_at.Given as goal

abbrev pub invariant-loop-place : goal.invariant-loop-place
invariant-loop-place l = list_all (has_granted (reverse l.log) l.lives) (take l.place l.lives) ≡ true
