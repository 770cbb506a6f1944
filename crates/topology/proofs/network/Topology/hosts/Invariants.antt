use Rattle.topology.proofs.Common.{◌≡◌, hosts_below}
use Rattle.topology.proofs.network.Topology.hosts.Given as goal

abbrev pub invariant-loop-place : goal.invariant-loop-place
invariant-loop-place l = l.hosts.items ≡ hosts_below l.self.imps l.place
