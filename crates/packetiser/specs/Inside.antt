-- How the slots are kept: a slab, and the keys of its slots in the order of their flows. No public clause cites it, so a caller
-- need not read it.
use Rattle.std.specs.Prelude.{◌≡◌, ◌≢◌, ℕ, ◌≤◌, Bool, false, List, [], ◌∷◌, length, Option, Some, None, All, filter_map}
use Rattle.slab.specs.Slab.{Slab, get, ContainsKey, slab_len}
use Rattle.packetiser.specs.Limits.{slot_count}
use Rattle.packetiser.specs.Slots.{SlotState}

-- the slots at these keys, in the order of the keys
abbrev pub slots_at : Slab SlotState → List ℕ → List SlotState
slots_at slots keys = filter_map (get slots) keys

-- a slot is there and passes
abbrev pub is_there_and : (SlotState → Bool) → Option SlotState → Bool
is_there_and test None = false
is_there_and test (Some s) = test s

-- no key is there twice
abbrev pub AreApart : List ℕ → Type 0
AreApart [] = Unit {0}
AreApart (key ∷ keys) = All (λ other. other ≢ key) keys × AreApart keys

-- each key has a slot of its own, no further slot is kept, and there is room for all slots of an IMP: in the slab, and for
-- this many keys
pub record IsKept (slots : Slab SlotState) (keys : List ℕ) (room : ℕ) : Type 0 where
  pub there : All (ContainsKey slots) keys
  pub apart : AreApart keys
  pub no_other : slab_len slots ≡ length keys
  pub slots_reserved : slot_count ≤ slots.capacity
  pub keys_reserved : slot_count ≤ room
