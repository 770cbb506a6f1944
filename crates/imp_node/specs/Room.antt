-- The room of an IMP: its store, and the queues of its hosts. Reassembly has slots of its own (crate packetiser).
use Rattle.std.specs.Prelude.{ℕ, ◌+◌, Bool, true, length, is_some, nat_lt, nat_le, if◌then◌else◌}
use Rattle.std.specs.List.{sum_by}
use Rattle.imp_channel.specs.Holding.{packets_in}
use Rattle.routing.specs.RouteTable.{next_of}
use Rattle.imp_node.specs.declared.port.Port.{Port}
use Rattle.imp_node.specs.State.{State, host_at}

-- the packets that wait and those in channels, together, have this many places
abbrev pub store_places : ℕ
store_places = 32

-- this many whole messages can wait for a host
abbrev pub queue_places : ℕ
queue_places = 16

-- how many channels of a port hold a packet
abbrev pub busy_channels : Port → ℕ
busy_channels port = length (packets_in port.line.sending)

-- how many packets it stores: those that wait, and those in channels
abbrev pub stored_count : State → ℕ
stored_count s = length s.store + sum_by busy_channels s.ports

-- this many packets more have room in the store
abbrev pub has_room : State → ℕ → Bool
has_room s packets = nat_le (stored_count s + packets) store_places

-- one message more has room in a host's queue
abbrev pub queue_has_room : State → ℕ → Bool
queue_has_room s h = nat_lt (length (host_at s h).queue) queue_places

-- whether there is a live route to an IMP
abbrev pub has_route : State → ℕ → Bool
has_route s imp = is_some (next_of s.routes imp)

-- a packet to an IMP is stored, and calls for room, only where a live route is; without one it is dropped
abbrev pub has_room_to : State → ℕ → Bool
has_room_to s imp = if has_route s imp then has_room s 1 else true
