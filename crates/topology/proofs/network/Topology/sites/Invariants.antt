use Rattle.std.proofs.Common.{◌≡◌, map}
use Rattle.std.specs.List.{range_with_len}
use Rattle.topology.specs.Topology.{site_of}
use Rattle.topology.proofs.network.Topology.sites.Given as goal

abbrev pub invariant-loop-number : goal.invariant-loop-number
invariant-loop-number l = l.sites.items ≡ map (site_of l.self.imps) (range_with_len 0 l.number)
