use Rattle.topology.proofs.Common.{◌≡◌, drop, items_view}
use Rattle.topology.specs.Topology.{each_of, imp_of}
use Rattle.topology.proofs.Documents.{behind}
use Rattle.topology.proofs.network.each_imp.Given as goal

abbrev pub invariant-loop-value : goal.invariant-loop-value
invariant-loop-value l =
    each_of imp_of (items_view l.values)
    ≡ behind l.imps.items (each_of imp_of (items_view (drop l.value-index l.values)))
