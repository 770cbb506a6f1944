-- What the two hosts of a link say to one another of the connections on it (NIC 8246: RTS, STR, ALL, GVB, RET and CLS).
use Rattle.std.specs.Prelude.{ℕ, ◌==◌, Bool, false, ◌&&◌, nat_lt, nat_le, Option, Some, None, if◌then◌else◌}
use Rattle.ncp_control.specs.declared.allocation.Allocation.{Allocation}

-- A connection is given by a number. Requests and CLS name its sockets, so whoever hears one knows of which connection it is. ALL, GVB and RET
-- name the link only: their number is that of the connection in which they were said, and nobody who hears them looks at it.
pub data Word : Type 0 where
  Rts : (connection : ℕ) → Word
  Str : (connection size : ℕ) → Word
  All : (connection messages bits : ℕ) → Word
  Gvb : (connection messages bits : ℕ) → Word
  Ret : (connection messages bits : ℕ) → Word
  Cls : (connection : ℕ) → Word

-- ---- what is kept by connection

abbrev pub for : {A : Type 0} → ℕ → A → (ℕ → A) → ℕ → A
for c x f k = if k == c then x else f k

-- ---- allocation

-- a message costs one message and its bits
abbrev pub covers : Allocation → ℕ → Bool
covers a bits = nat_lt 0 a.messages && nat_le bits a.bits

-- this much is there
abbrev pub holds : Allocation → ℕ → ℕ → Bool
holds a messages bits = nat_le messages a.messages && nat_le bits a.bits

abbrev pub is_size : ℕ → Option ℕ → Bool
is_size size None = false
is_size size (Some z) = z == size
