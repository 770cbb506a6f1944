-- What one IMP keeps (Heart et al., SJCC 1970).
use Rattle.std.specs.Prelude.{ℕ, Bool, true, false, List, [], slice_index_or, slice_set, length, replicate, nat_lt}
use Rattle.std.specs.FinMap as map
use Rattle.packetiser.specs.PacketFields.{PacketFields}
use Rattle.packetiser.specs.Slots.{SlotState}
use Rattle.imp_channel.specs.Line as line
use Rattle.routing.specs.RouteTable.{Table}
use Rattle.routing.specs.RouteTable as table
use Rattle.link_table.specs.Flows.{Sources, Destinations}
use Rattle.imp_node.specs.declared.outgoing.Outgoing.{Outgoing}
use Rattle.imp_node.specs.declared.port.Port.{Port}
use Rattle.imp_node.specs.declared.waiting.Message.{Message}
use Rattle.imp_node.specs.declared.waiting.Told.{Told}

-- ---- the state

-- a host: up or down, and what waits for it, the oldest first: answers to its own messages, and whole messages for it
pub record HostState : Type 0 where
  pub up : Bool
  pub answers : List Told
  pub queue : List Message

pub record State : Type 0 where
  -- memory ran out in an earlier call: nothing is said of what the IMP keeps, and it is not to be used again
  pub spent : Bool
  -- its hosts: 0, 1 and so on
  pub hosts : List HostState
  -- its ends of lines, one for each port
  pub ports : List Port
  -- its number, and the distances that its neighbours announced last
  pub routes : Table
  -- the packets that wait for a channel, the oldest first
  pub store : List PacketFields
  -- the messages in reassembly
  pub slots : List SlotState
  -- the flows from its hosts: what is outstanding or answered, and the number begun last
  pub sources : Sources
  -- the flows to its hosts: the number noted last
  pub kept : Destinations

-- an IMP after a call, and the frames that the call puts on lines, in their order
pub record ImpTurn : Type 0 where
  pub state : State
  pub frames : List Outgoing

-- ---- reading it

-- the IMP's own number
abbrev pub number : State → ℕ
number s = s.routes.own

-- a host that isn't there is like one that is down
abbrev pub no_host : HostState
no_host = record { up = false; answers = []; queue = [] }

abbrev pub host_at : State → ℕ → HostState
host_at s h = slice_index_or s.hosts h no_host

-- whether it has this host
abbrev pub is_there : State → ℕ → Bool
is_there s h = nat_lt h (length s.hosts)

abbrev pub is_up : State → ℕ → Bool
is_up s h = (host_at s h).up

abbrev pub with_host : State → ℕ → HostState → State
with_host s h host = record s { hosts = slice_set s.hosts h host }

-- an end that is down: its line was just reset
abbrev pub down_port : Port
down_port = record { up = false; line = line.opening_end }

abbrev pub port_at : List Port → ℕ → Port
port_at ports k = slice_index_or ports k down_port

abbrev pub with_port : State → ℕ → Port → State
with_port s k port = record s { ports = slice_set s.ports k port }

-- ---- at the opening

abbrev pub up_host : HostState
up_host = record { up = true; answers = []; queue = [] }

abbrev pub up_port : Port
up_port = record { up = true; line = line.opening_end }

-- IMP `own` with this many hosts and ports: all hosts and ends of lines are up, and nothing was heard, begun or taken
abbrev pub opening_node : ℕ → ℕ → ℕ → State
opening_node own hosts ports = record {
  spent = false;
  hosts = replicate hosts up_host;
  ports = replicate ports up_port;
  routes = table.opening_table own ports;
  store = [];
  slots = [];
  sources = map.empty;
  kept = map.empty;
}
