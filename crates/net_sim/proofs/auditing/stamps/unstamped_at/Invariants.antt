use Rattle.net_sim.proofs.Common.{◌≡◌, true, take, list_all, is_stamped}
use Rattle.std.proofs.Common.{reverse}
use Rattle.net_sim.proofs.auditing.stamps.unstamped_at.Given as goal

abbrev pub invariant-loop-place : goal.invariant-loop-place
invariant-loop-place l = list_all (is_stamped (reverse l.log)) (take l.place l.lives) ≡ true
