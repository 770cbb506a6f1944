-- What a notice says of one socket, or of one host.
use Rattle.std.specs.Prelude.{ℕ, Bool, false, ◌==◌, ◌&&◌, nat_lt, if◌then◌else◌, List, length, Option, Some, None}
use Rattle.interface.specs.Host.{Host, same_host}
use Rattle.icp.specs.declared.notices.Partner.{Partner}
use Rattle.host_pairs.specs.declared.notice.Notice.{Notice}
use Rattle.host_pairs.specs.declared.notice.Notice.TheVariants as notice

-- the far end, where a connection of this socket was opened
abbrev pub opened_on : ℕ → Notice → Option Partner
opened_on socket (notice.Opened own peer foreign asked taken) = if own == socket then Some (record { peer = peer; socket = foreign }) else None
opened_on socket n = None

-- this host and this socket of it
abbrev pub is_partner : Host → ℕ → Partner → Bool
is_partner peer socket p = same_host p.peer peer && (p.socket == socket)

abbrev pub is_partner_in : Host → ℕ → Option Partner → Bool
is_partner_in peer socket None = false
is_partner_in peer socket (Some p) = is_partner peer socket p

-- whether the connection of this socket with that partner was opened
abbrev pub is_opened : ℕ → Host → ℕ → Notice → Bool
is_opened socket peer foreign n = is_partner_in peer foreign (opened_on socket n)

-- the bits that arrived, where they arrived on this socket
abbrev pub arrived_on : ℕ → Notice → Option (List Bool)
arrived_on own (notice.Arrived socket bits) = if socket == own then Some bits else None
arrived_on own n = None

abbrev pub has_bits : Option (List Bool) → Bool
has_bits None = false
has_bits (Some bits) = nat_lt 0 (length bits)

-- whether bits arrived on this socket, one at least
abbrev pub brings_bits : ℕ → Notice → Bool
brings_bits own n = has_bits (arrived_on own n)

-- whether a connection of this socket has ended
abbrev pub has_ended : ℕ → Notice → Bool
has_ended own (notice.Ended socket peer foreign) = socket == own
has_ended own n = false

-- whether all connections with this host are gone
abbrev pub is_reset : Host → Notice → Bool
is_reset host (notice.PairReset peer) = same_host peer host
is_reset host n = false

abbrev pub is_reset_of : Option Partner → Notice → Bool
is_reset_of None n = false
is_reset_of (Some p) n = is_reset p.peer n
