-- The limits of packets and of reassembly.
use Rattle.std.specs.Prelude.{ℕ}

-- this many octets precede a packet's bits
abbrev pub header_octets : ℕ
header_octets = 9

-- a piece has at most this many bits (Heart et al., SJCC 1970: a packet is about a thousand bits)
abbrev pub piece_bits : ℕ
piece_bits = 1008

-- a message has at most this many pieces
abbrev pub most_pieces : ℕ
most_pieces = 8

-- this many messages can be in reassembly at once
abbrev pub slot_count : ℕ
slot_count = 8
