use Rattle.net_sim.proofs.Common.{◌≡◌, take, is_host}
use Rattle.std.specs.List.{filter}
use Rattle.net_sim.proofs.strangers.strangers_of.Given as goal

abbrev pub invariant-loop-host : goal.invariant-loop-host
invariant-loop-host l = l.found.items ≡ filter (λ h. is_host l.named h) (take l.host-index l.hosts)
