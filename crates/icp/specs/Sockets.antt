-- Socket numbers, and how one is said in 32 bits.
use Rattle.std.specs.Prelude.{ℕ, ◌+◌, Bool, ◌&&◌, nat_le, if◌then◌else◌, List, Option, Some, None}
use Rattle.std.specs.Int.{w32, to_be_bytes}
use Rattle.bit_messages.specs.Octets.{bits_of, octets_of}
use Rattle.ncp_control.specs.Numbers.{is_send_socket, is_receive_socket}
use Rattle.ncp_control.specs.Reading.{number_at}
use Rattle.icp.specs.declared.fault.StartFault.{StartFault}
use Rattle.icp.specs.declared.fault.StartFault.TheVariants as fault

-- a socket number as the server says it: 32 bits, the most significant first
abbrev pub socket_bits : ℕ → List Bool
socket_bits socket = bits_of (to_be_bytes w32 socket)

-- the number that 32 bits say
abbrev pub socket_of : List Bool → ℕ
socket_of bits = number_at w32 (octets_of bits) 0

-- why a server can't begin: it listens on an odd socket, and its base is even
abbrev pub server_fault : ℕ → ℕ → Option StartFault
server_fault listen base = if is_send_socket listen && is_receive_socket base then None else Some fault.BadSocket

-- why a user can't begin: it asks an odd socket, its own is even, and the last of its sockets is three above
abbrev pub user_fault : ℕ → ℕ → Option StartFault
user_fault listen own = if is_send_socket listen && (is_receive_socket own && nat_le (own + 3) 4294967295) then None else Some fault.BadSocket
