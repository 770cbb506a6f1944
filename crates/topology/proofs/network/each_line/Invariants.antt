use Rattle.topology.proofs.Common.{◌≡◌, drop, items_view}
use Rattle.topology.specs.Topology.{each_of, line_of}
use Rattle.topology.proofs.Documents.{behind}
use Rattle.topology.proofs.network.each_line.Given as goal

abbrev pub invariant-loop-value : goal.invariant-loop-value
invariant-loop-value l = each_of line_of (items_view l.values) ≡ behind l.lines.items (each_of line_of (items_view (drop l.value-index l.values)))
