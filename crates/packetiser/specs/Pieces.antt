-- The pieces of a body (Heart et al., SJCC 1970: the source IMP breaks a message into packets).
use Rattle.std.specs.Prelude.{◌≡◌, ℕ, ◌+◌, ◌-◌, ◌*◌, ◌/◌, ◌%◌, ◌<◌, ◌≤◌, Bool, List, length, take, drop, map, ◌==◌}
use Rattle.std.specs.List.{range_with_len}
use Rattle.interface.specs.declared.address.Flow.{Flow}
use Rattle.packetiser.specs.PacketFields.{PacketFields}
use Rattle.packetiser.specs.Limits.{piece_bits, most_pieces}
use Rattle.packetiser.specs.declared.packet.PacketKind.TheVariants as kind

-- how many pieces a body has: its length divided by 1008, rounded up
abbrev pub piece_count : List Bool → ℕ
piece_count body = (length body + (piece_bits - 1)) / piece_bits

-- the piece at a place, counted from 0: the bits from 1008 times the place on, at most 1008
abbrev pub piece : List Bool → ℕ → List Bool
piece body place = take piece_bits (drop (piece_bits * place) body)

-- the size of a body: 16 to 8064 bits in units of sixteen
pub record IsBodySize (size : ℕ) : Type 0 where
  pub some : 0 < size
  pub units : size % 16 ≡ 0
  pub most : size ≤ most_pieces * piece_bits

-- the places 0, 1, .. of this many pieces
abbrev pub places : ℕ → List ℕ
places count = range_with_len 0 count

-- the packet with the piece at a place; the last piece is marked
abbrev pub piece_packet : Flow → ℕ → List Bool → ℕ → PacketFields
piece_packet flow number body place = record {
  kind = kind.Data;
  source = flow.source;
  destination = flow.destination;
  link = flow.link.0;
  number = number;
  place = place;
  last = place + 1 == piece_count body;
  bits = piece body place;
}

-- the packets of a message with this body and number
abbrev pub packets_of : Flow → ℕ → List Bool → List PacketFields
packets_of flow number body = map (piece_packet flow number body) (places (piece_count body))

-- these are the bits and the last flag of the piece of a body at a place
pub record IsPieceOf (body : List Bool) (place : ℕ) (last : Bool) (bits : List Bool) : Type 0 where
  pub there : place < piece_count body
  pub flag : last ≡ (place + 1 == piece_count body)
  pub same : bits ≡ piece body place

-- a packet carries a piece of this body
abbrev pub CarriesPieceOf : List Bool → PacketFields → Type 0
CarriesPieceOf body p = IsPieceOf body p.place p.last p.bits
