-- What holds of the parts that an IMP is made of.
use Rattle.std.specs.Prelude.{◌≡◌, ◌≤◌, ◌<◌, List, length, All}
use Rattle.interface.specs.Host.{most_imps}
use Rattle.interface.specs.declared.address.Flow.{Flow}
use Rattle.routing.specs.RouteTable.{Table}
use Rattle.imp_node.specs.declared.waiting.Message.{Message}
use Rattle.imp_node.specs.declared.port.Port.{Port}
use Rattle.imp_node.specs.State.{HostState}

-- packets can name both hosts of the flow
pub record IsPacketFlow (f : Flow) : Type 0 where
  pub source : f.source.imp ≤ most_imps
  pub destination : f.destination.imp ≤ most_imps

-- an answer about each message can travel as a packet
abbrev pub AreOfPackets : List Message → Type 0
AreOfPackets queue = All (λ m. IsPacketFlow m.flow) queue

-- the route table and the ports of one IMP, whose hosts an address can name
pub record AreParts (hosts : List HostState) (ports : List Port) (routes : Table) : Type 0 where
  pub some : 1 ≤ routes.own
  pub own : routes.own ≤ most_imps
  pub addressed : length hosts ≤ 4
  pub few : length ports < 256
  pub routed : length routes.heard ≡ length ports
