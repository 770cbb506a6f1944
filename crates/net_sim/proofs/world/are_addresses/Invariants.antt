use Rattle.net_sim.proofs.Common.{take, IsAddress}
use Rattle.std.specs.List.{All}
use Rattle.net_sim.proofs.world.are_addresses.Given as goal

abbrev pub invariant-loop-host : goal.invariant-loop-host
invariant-loop-host l = All (λ h. IsAddress h) (take l.host-index l.hosts)
