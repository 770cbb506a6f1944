-- How a list of bits is kept in octets.
use Rattle.std.specs.Prelude.{◌≡◌, ℕ, ◌*◌, ◌<◌, ◌≤◌, Bool, false, List, ◌++◌, length, take, replicate}
use Rattle.bit_messages.specs.Octets.{bits_of}

-- the octets spell these bits, and then fewer than eight zeros
pub record Packs (octets : List ℕ) (bits : List Bool) : Type 0 where
  pub zeros : ℕ
  pub same : bits_of octets ≡ bits ++ replicate zeros false
  pub few : zeros < 8

-- the octets keep this many bits: there are no more octets than that takes, and the bits that aren't used are zero
pub record IsPacked (octets : List ℕ) (count : ℕ) : Type 0 where
  pub within : count ≤ 8 * length octets
  pub packs : Packs octets (take count (bits_of octets))
