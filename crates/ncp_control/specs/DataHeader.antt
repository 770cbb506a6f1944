-- The 40 bits that precede a message's data (NIC 8246, message format).
use Rattle.std.specs.Prelude.{ℕ, ◌+◌, ◌*◌, ◌<◌, ◌^◌, Bool, false, ◌||◌, nat_lt, if◌then◌else◌, List, [], ◌∷◌, ◌++◌, length, slice_index_or, Option, Some, None}
use Rattle.std.specs.Int.{w16, to_be_bytes, from_be_bytes}
use Rattle.bit_messages.specs.Octets.{bits_of, octet}
use Rattle.ncp_control.specs.declared.data_header.DataHeader.{DataHeader}

-- the octet of the eight bits from a place on
abbrev pub octet_at : List Bool → ℕ → ℕ
octet_at text place =
    octet (slice_index_or text place false) (slice_index_or text (place + 1) false) (slice_index_or text (place + 2) false) (slice_index_or text (place + 3) false)
    (slice_index_or text (place + 4) false) (slice_index_or text (place + 5) false) (slice_index_or text (place + 6) false) (slice_index_or text (place + 7) false)

-- the size is in the second octet, the count in the third and fourth
abbrev pub fields_of : List Bool → DataHeader
fields_of text = record { size = octet_at text 8; count = from_be_bytes w16 (octet_at text 16 ∷ octet_at text 24 ∷ []) }

-- how many bits of data are announced
abbrev pub data_bits : DataHeader → ℕ
data_bits h = h.size * h.count

-- the header of a text. A text is malformed where it ends within the 40 bits of the header, or before the data does
abbrev pub header_of : List Bool → Option DataHeader
header_of text =
    if nat_lt (length text) 40 || nat_lt (length text) (40 + data_bits (fields_of text))
    then None
    else Some (fields_of text)

-- an octet of zeros, the size, the count, an octet of zeros
abbrev pub header_bits : DataHeader → List Bool
header_bits h = bits_of (0 ∷ h.size ∷ to_be_bytes w16 h.count ++ 0 ∷ [])

-- the ranges of the fields
pub record IsHeader (h : DataHeader) : Type 0 where
  pub size : h.size < 2 ^ 8
  pub count : h.count < 2 ^ 16
