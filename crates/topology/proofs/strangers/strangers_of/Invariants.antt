use Rattle.topology.proofs.Common.{items_view, hosts_below}
use Rattle.std.proofs.Common.{◌≡◌, filter}
use Rattle.topology.specs.Topology.{is_foreign}
use Rattle.topology.proofs.strangers.strangers_of.Given as goal

abbrev pub invariant-loop-place : goal.invariant-loop-place
invariant-loop-place l = l.strangers.items ≡ filter (is_foreign (items_view l.imps)) (hosts_below l.network l.place)
