-- The carriers that scripts are replayed over, as a topology names them.
use Rattle.std.specs.Prelude.{List, map}
use Rattle.leader1822.specs.Boxes.{Boxes, opening_boxes}
use Rattle.subnet.specs.Calls.{Kept, running}
use Rattle.subnet.specs.Opening.{opening_subnet}
use Rattle.subnet.specs.declared.wire.Ends.{Ends}
use Rattle.topology.specs.Topology.{TopologyFields, hosts_of, sites_of}
use Rattle.topology.specs.declared.network.LineEnds as line

-- the ends of lines, as a subnet takes them
abbrev pub ends_of : List line.LineEnds → List Ends
ends_of lines = map (λ (l : line.LineEnds). record { a = l.a; b = l.b }) lines

-- the mailboxes between the hosts of a topology, and the subnet of its IMPs and lines, at the opening
abbrev pub plain_of : TopologyFields → Boxes
plain_of t = opening_boxes (hosts_of t)

abbrev pub subnet_of : TopologyFields → Kept
subnet_of t = running (opening_subnet (hosts_of t) (sites_of t) (ends_of t.lines))
