-- Hearing a line.
use Rattle.std.specs.Prelude.{◌≡◌, ◌+◌, ◌<◌, ◌==◌, ◌++◌, ℕ, Bool, true, false, List, Option, IfSome, length}
use Rattle.std.specs.Io.KnownBytes.{Consumes, IsAtEnd, prepend_known}
use Rattle.std.specs.List.{All}
use Rattle.script.specs.Input.{ended_line}

-- a line, without its end
abbrev pub IsLine : List ℕ → Type 0
IsLine line = All (λ x. (x == 10) ≡ false) line

-- a line with its end
abbrev pub IsEnded : List ℕ → Type 0
IsEnded octets = (line : List ℕ) × IsLine line × (octets ≡ ended_line line)

-- octets begin with a line that has its end; it has this many octets
pub record EndsAt (octets : List ℕ) (count : ℕ) : Type 0 where
  pub line : List ℕ
  pub rest : List ℕ
  pub is_line : IsLine line
  pub parts : octets ≡ ended_line line ++ rest
  pub counted : count ≡ length (ended_line line)

-- an input as it is heard: how many of its octets were heard, and those that are left, where they are known
pub record Hearing : Type 0 where
  pub heard : ℕ
  pub left : Option (List ℕ)

-- what was read ahead is left to be heard, and then what is left to be read
abbrev pub hearing : ℕ → List ℕ → Option (List ℕ) → Hearing
hearing heard ahead rest = record { heard = heard; left = prepend_known ahead rest }

-- these octets were heard
pub record Hears (old new : Hearing) (octets : List ℕ) : Type 0 where
  pub consumed : Consumes old.left new.left octets
  pub counted : new.heard ≡ old.heard + length octets

-- a line with its end was heard; or the input has ended, and all that was left, a line without an end or nothing
abbrev pub IsHeard : Bool → List ℕ → Option (List ℕ) → Type 0
IsHeard true line left = IsEnded line
IsHeard false line left = IsLine line × IsAtEnd left

-- there are more octets than an input may have
abbrev pub IsTooLong : Hearing → Type 0
IsTooLong h = IfSome h.left (λ octets. 268435456 < h.heard + length octets)
