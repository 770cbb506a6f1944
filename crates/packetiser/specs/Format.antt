-- Packets and their octets.
--
-- In order: the kind, the addresses of the message's source and destination, the link, two octets with the message's
-- number, the place (lower three bits) with the last flag (upper bit), and two octets with the number of bits; then the bits
-- follow. Of two octets the first is the higher one.
use Rattle.std.specs.Prelude.{ℕ, ◌+◌, ◌*◌, ◌/◌, ◌%◌, Bool, not, List, ◌∷◌, length, take, drop, slice_index, Result, Ok, Err, nat_lt, nat_le, ◌||◌, ◌&&◌, ◌==◌, if◌then◌else◌}
use Rattle.bit_messages.specs.Octets.{bits_of, octets_of}
use Rattle.interface.specs.Host.{Host, address_octet}
use Rattle.packetiser.specs.PacketFields.{PacketFields}
use Rattle.packetiser.specs.Limits.{header_octets, piece_bits, most_pieces}
use Rattle.packetiser.specs.declared.packet.PacketKind.{PacketKind}
use Rattle.packetiser.specs.declared.packet.PacketKind.TheVariants as kind
use Rattle.packetiser.specs.declared.fault.PacketFault.{PacketFault}
use Rattle.packetiser.specs.declared.fault.PacketFault.TheVariants as fault

-- ---- places

-- where the octets of a packet are: its kind, the addresses of its message's source and destination, the link, the two
-- octets of the number, the place of its piece with the last flag, and the two that say how many bits follow the header
abbrev pub kind_at : ℕ
kind_at = 0

abbrev pub source_at : ℕ
source_at = 1

abbrev pub destination_at : ℕ
destination_at = 2

abbrev pub link_at : ℕ
link_at = 3

abbrev pub number_at : ℕ
number_at = 4

abbrev pub place_at : ℕ
place_at = 6

abbrev pub count_at : ℕ
count_at = 7

-- ---- writing

-- the octet of a kind
abbrev pub kind_octet : PacketKind → ℕ
kind_octet kind.Data = 0
kind_octet kind.Rfnm = 1
kind_octet kind.Dead = 2
kind_octet kind.Ask = 3
kind_octet kind.Never = 4

-- the octet of a place and a last flag
abbrev pub place_octet : ℕ → Bool → ℕ
place_octet place last = if last then place + 128 else place

-- the octets of a packet
abbrev pub spelling : PacketFields → List ℕ
spelling p =
    kind_octet p.kind ∷ address_octet p.source ∷ address_octet p.destination ∷ p.link ∷ (p.number / 256) ∷ (p.number % 256)
    ∷ place_octet p.place p.last ∷ (length p.bits / 256) ∷ (length p.bits % 256) ∷ octets_of p.bits

-- ---- reading

-- the kind with this octet
abbrev pub kind_of : ℕ → PacketKind
kind_of octet =
    if octet == 0 then kind.Data
    else (if octet == 1 then kind.Rfnm
    else (if octet == 2 then kind.Dead
    else (if octet == 3 then kind.Ask
    else kind.Never)))

-- the host that an address octet names
abbrev pub host_of : ℕ → Host
host_of octet = record { imp = octet % 64; host = octet / 64 }

-- the number that two octets say, of which the first is the higher one
abbrev pub two_octets : List ℕ → ℕ → ℕ
two_octets octets first = 256 * slice_index octets first + slice_index octets (first + 1)

-- the number of bits that a packet says that it has
abbrev pub bit_count : List ℕ → ℕ
bit_count octets = two_octets octets count_at

-- how many octets a packet with this many bits has
abbrev pub octet_count : ℕ → ℕ
octet_count bits = header_octets + (bits + 7) / 8

-- whether the octet of the kind says that this is a piece
abbrev pub is_data : List ℕ → Bool
is_data octets = slice_index octets kind_at == 0

-- the upper bit of the octet of the place
abbrev pub is_last : List ℕ → Bool
is_last octets = nat_le 128 (slice_index octets place_at)

-- the lower three bits of the octet of the place
abbrev pub place_of : List ℕ → ℕ
place_of octets = slice_index octets place_at % 8

-- an address octet that names an IMP: its lower six bits are 1 to 63
abbrev pub is_address : ℕ → Bool
is_address octet = nat_le 1 (octet % 64)

-- fewer octets than a header has, or than the number of bits asks for
unfoldable pub is_short : List ℕ → Bool
is_short octets = nat_lt (length octets) header_octets || nat_lt (length octets) (octet_count (bit_count octets))

-- an unknown kind, an IMP numbered 0, a bit set between place and last flag, place 7 without the last flag, an answer
-- or a question whose octet of the place isn't 128, or octets after the end
unfoldable pub is_not_canonical : List ℕ → Bool
is_not_canonical octets =
    nat_lt 4 (slice_index octets kind_at)
    || not (is_address (slice_index octets source_at))
    || not (is_address (slice_index octets destination_at))
    || not (slice_index octets place_at / 8 % 16 == 0)
    || not (is_last octets) && place_of octets + 1 == most_pieces
    || not (is_data octets) && not (slice_index octets place_at == 128)
    || nat_lt (octet_count (bit_count octets)) (length octets)

-- a piece with no bits, with more than 1008, or with part of a unit of sixteen; a piece that isn't the last and hasn't 1008;
-- an answer or a question with bits
unfoldable pub is_bad_length : List ℕ → Bool
is_bad_length octets =
    if is_data octets
    then bit_count octets == 0 || nat_lt piece_bits (bit_count octets) || not (bit_count octets % 16 == 0) || not (is_last octets) && not (bit_count octets == piece_bits)
    else not (bit_count octets == 0)

-- what the octets of a packet say
abbrev pub fields_of : List ℕ → PacketFields
fields_of octets = record {
  kind = kind_of (slice_index octets kind_at);
  source = host_of (slice_index octets source_at);
  destination = host_of (slice_index octets destination_at);
  link = slice_index octets link_at;
  number = two_octets octets number_at;
  place = place_of octets;
  last = is_last octets;
  bits = take (bit_count octets) (bits_of (drop header_octets octets));
}

-- the packet that the octets spell, or the first reason why they spell none
abbrev pub read_of : List ℕ → Result PacketFields PacketFault
read_of octets =
    if is_short octets then Err fault.Short
    else (if is_not_canonical octets then Err fault.NotCanonical
    else (if is_bad_length octets then Err fault.BadLength
    else Ok (fields_of octets)))
