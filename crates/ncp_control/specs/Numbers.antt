-- The numbers in commands that have a range of their own (NIC 8246; links 2 to 31 are this network's choice).
use Rattle.std.specs.Prelude.{ℕ, Bool, ◌%◌, ◌==◌, ◌&&◌, nat_lt, nat_le}

-- receiving ends have even sockets
abbrev pub is_receive_socket : ℕ → Bool
is_receive_socket number = number % 2 == 0

-- sending ends have odd sockets
abbrev pub is_send_socket : ℕ → Bool
is_send_socket number = number % 2 == 1

-- links 2 to 31 belong to connections
abbrev pub is_connection_link : ℕ → Bool
is_connection_link number = nat_le 2 number && nat_le number 31

-- a byte has at least one bit
abbrev pub is_byte_size : ℕ → Bool
is_byte_size bits = nat_lt 0 bits
