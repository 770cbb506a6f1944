-- The whole octets of a list of bits.
use Rattle.std.specs.Prelude.{ℕ, ◌*◌, ◌/◌, Bool, List, length, take, drop}

-- how many bits of this many make whole octets
abbrev pub in_octets : ℕ → ℕ
in_octets count = 8 * (count / 8)

-- the bits that make whole octets
abbrev pub whole : List Bool → List Bool
whole bits = take (in_octets (length bits)) bits

-- the bits after the last whole octet: 0 to 7 of them
abbrev pub part : List Bool → List Bool
part bits = drop (in_octets (length bits)) bits
