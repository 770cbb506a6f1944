use Rattle.topology.proofs.Common.{LineEnds}
use Rattle.std.proofs.Common.{◌≤◌, length, sym, subst, List}
use Rattle.topology.specs.Topology.{most_network_lines}
use Rattle.topology.proofs.Ports.{few_lines}
use Rattle.topology.proofs.network.Topology.lines.Goals as goal

pub returns-clause-few : goal.returns-clause-few
returns-clause-few c = subst (λ (lines : List LineEnds). length lines ≤ most_network_lines) (sym c.deref.ensures.value) (few_lines _ c.self.invariant)
