-- Numbers that wrap around, and a window over them: `m` numbers, and a window of `w` ahead of the last one.
use Rattle.std.specs.Prelude.{ℕ, ◌+◌, ◌-◌, ◌%◌, ◌≤◌, ◌<◌, Bool, true, Option, Some, None, nat_le, ◌&&◌}

-- the number after n
abbrev pub next_of : ℕ → ℕ → ℕ
next_of m n = (n + 1) % m

-- how many steps lead from l forward to n
abbrev pub ahead_of : ℕ → ℕ → ℕ → ℕ
ahead_of m l n = (n + m - l) % m

-- the number from which w steps lead to l: the last one that the window still reaches back to
abbrev pub oldest_of : ℕ → ℕ → ℕ → ℕ
oldest_of m w l = (l + m - w) % m

-- a number is new where none was kept, and where it lies 1 to w steps ahead of the one that was
abbrev pub is_new_of : ℕ → ℕ → Option ℕ → ℕ → Bool
is_new_of m w None n = true
is_new_of m w (Some l) n = nat_le 1 (ahead_of m l n) && nat_le (ahead_of m l n) w

-- n is the number l, or is at most w steps before it
pub record NearOf (m w l n : ℕ) : Type 0 where
  pub last : l < m
  pub number : n < m
  pub close : ahead_of m n l ≤ w
