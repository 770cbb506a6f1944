-- Which topology a document describes.
use Rattle.std.specs.Prelude.{◌≡◌, ℕ, List, Some}
use Rattle.topology.specs.Topology.{TopologyFields, topology_in}

-- the document describes this topology
abbrev pub Describes : List ℕ → TopologyFields → Type 0
Describes document t = topology_in document ≡ Some t
