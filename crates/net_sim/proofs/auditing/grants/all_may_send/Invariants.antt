use Rattle.std.proofs.Common.{◌≡◌, true, take, reverse}
use Rattle.std.specs.List.{list_all}
use Rattle.net_sim.specs.Inside.Audit.{may_send}
use Rattle.net_sim.proofs.auditing.grants.all_may_send.Given as goal

abbrev pub invariant-loop-y : goal.invariant-loop-y
invariant-loop-y l = list_all (may_send (reverse l.log) l.asked l.x) (take l.y-index l.lives) ≡ true
