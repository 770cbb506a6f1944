-- Octets of which a number of bits is used.
use Rattle.std.specs.Prelude.{ℕ, ◌+◌, ◌/◌, List}

-- octets and how many bits they keep
pub record Stored : Type 0 where
  pub octets : List ℕ
  pub len : ℕ

-- this many bits in these octets
abbrev pub stored : List ℕ → ℕ → Stored
stored octets len = record { octets = octets; len = len }

-- how many octets this many bits need
abbrev pub octets_for : ℕ → ℕ
octets_for len = (len + 7) / 8
