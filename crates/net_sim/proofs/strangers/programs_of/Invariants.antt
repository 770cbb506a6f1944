use Rattle.net_sim.proofs.Common.{◌≡◌, take, is_host}
use Rattle.net_sim.specs.Steps.{with_programs}
use Rattle.net_sim.proofs.strangers.programs_of.Given as goal

abbrev pub invariant-loop-host : goal.invariant-loop-host
invariant-loop-host l = l.found.items ≡ with_programs (λ h. is_host l.strangers h) (take l.host-index l.hosts)
