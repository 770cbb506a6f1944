use Rattle.topology.proofs.Common.{is_host, true, subst, ◌≡◌}
use Rattle.std.specs.List.{All}
use Rattle.topology.specs.Topology.{TopologyFields, hosts_of}
use Rattle.topology.proofs.Picked.{picked_there}
use Rattle.topology.proofs.network.Topology.strangers.Goals as goal

pub returns-clause-there : goal.returns-clause-there
returns-clause-there c =
    subst (λ (t : TopologyFields). All (λ h. is_host (hosts_of t) h ≡ true) t.strangers) c.self.view_is
    (picked_there _ _ c.self.invariant.strangers)
