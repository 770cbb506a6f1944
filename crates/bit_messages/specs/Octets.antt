-- Octets and their bits, the most significant bit first.
use Rattle.std.specs.Prelude.{ℕ, ◌+◌, ◌*◌, ◌/◌, ◌%◌, ◌-◌, Bool, true, false, List, [], ◌∷◌, ◌==◌, length, nat_lt, Option, Some, None, if◌then◌else◌}
use Rattle.bit_messages.specs.declared.fault.BitFault.{BitFault}
use Rattle.bit_messages.specs.declared.fault.BitFault.TheVariants as fault
use Rattle.std.specs.List.{flat_map}

abbrev pub bit_value : Bool → ℕ
bit_value true = 1
bit_value false = 0

-- the eight bits of an octet
abbrev pub octet_bits : ℕ → List Bool
octet_bits n =
    (n / 128 % 2 == 1) ∷ (n / 64 % 2 == 1) ∷ (n / 32 % 2 == 1) ∷ (n / 16 % 2 == 1)
    ∷ (n / 8 % 2 == 1) ∷ (n / 4 % 2 == 1) ∷ (n / 2 % 2 == 1) ∷ (n % 2 == 1) ∷ []

-- the bits of a sequence of octets, in order
abbrev pub bits_of : List ℕ → List Bool
bits_of octets = flat_map octet_bits octets

-- the octet with these eight bits
abbrev pub octet : Bool → Bool → Bool → Bool → Bool → Bool → Bool → Bool → ℕ
octet a b c d e f g h =
    128 * bit_value a + 64 * bit_value b + 32 * bit_value c + 16 * bit_value d + 8 * bit_value e + 4 * bit_value f + 2 * bit_value g + bit_value h

-- the octets of a list of bits: eight bits each, the last filled with zeros
unfoldable pub octets_of : List Bool → List ℕ
octets_of [] = []
octets_of (a ∷ []) = octet a false false false false false false false ∷ []
octets_of (a ∷ b ∷ []) = octet a b false false false false false false ∷ []
octets_of (a ∷ b ∷ c ∷ []) = octet a b c false false false false false ∷ []
octets_of (a ∷ b ∷ c ∷ d ∷ []) = octet a b c d false false false false ∷ []
octets_of (a ∷ b ∷ c ∷ d ∷ e ∷ []) = octet a b c d e false false false ∷ []
octets_of (a ∷ b ∷ c ∷ d ∷ e ∷ f ∷ []) = octet a b c d e f false false ∷ []
octets_of (a ∷ b ∷ c ∷ d ∷ e ∷ f ∷ g ∷ []) = octet a b c d e f g false ∷ []
octets_of (a ∷ b ∷ c ∷ d ∷ e ∷ f ∷ g ∷ h ∷ rest) = octet a b c d e f g h ∷ octets_of rest

-- why there are no first `count` bits: the octets have fewer
abbrev pub octets_fault : List ℕ → ℕ → Option BitFault
octets_fault octets count = if nat_lt (8 * length octets) count then Some fault.Range else None

-- how many bits of the last octet such a list leaves
abbrev pub spare_bits : ℕ → ℕ
spare_bits count = (8 - count % 8) % 8

-- why there are no `count` octets of bits from a place on: they pass the end
abbrev pub octets_at_fault : ℕ → ℕ → List Bool → Option BitFault
octets_at_fault from count bits = if nat_lt (length bits) (from + 8 * count) then Some fault.Range else None
