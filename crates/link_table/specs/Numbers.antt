-- The numbers of a flow's messages, and what its destination takes for new.
use Rattle.std.specs.Prelude.{ℕ, ◌≤◌, ◌<◌, Bool, Option}
use Rattle.link_table.specs.Window.{next_of, ahead_of, oldest_of, is_new_of}
use Rattle.interface.specs.Flow.{message_numbers}

-- how many numbers there are: 65,536
unfoldable pub modulus : ℕ
modulus = message_numbers

-- how far ahead of the last one a number is new
unfoldable pub window : ℕ
window = 32767

-- the number after n
unfoldable pub next : ℕ → ℕ
next n = next_of modulus n

-- how many steps lead from l forward to n
unfoldable pub ahead : ℕ → ℕ → ℕ
ahead l n = ahead_of modulus l n

-- the number `window` before l
unfoldable pub oldest : ℕ → ℕ
oldest l = oldest_of modulus window l

-- whether a destination that kept this last number, or none, takes n as new
unfoldable pub is_new : Option ℕ → ℕ → Bool
is_new kept n = is_new_of modulus window kept n

-- n is l, or is at most `window` before it
pub record Near (l n : ℕ) : Type 0 where
  pub last : l < modulus
  pub number : n < modulus
  pub close : ahead n l ≤ window
