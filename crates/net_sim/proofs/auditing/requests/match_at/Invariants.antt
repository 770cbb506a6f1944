use Rattle.net_sim.proofs.Common.{◌≡◌, true, take, list_all, is_unmatched}
use Rattle.std.proofs.Common.{reverse}
use Rattle.net_sim.proofs.auditing.requests.match_at.Given as goal

abbrev pub invariant-loop-place : goal.invariant-loop-place
invariant-loop-place l = list_all (is_unmatched (reverse l.log) l.x) (take l.place l.lives) ≡ true
