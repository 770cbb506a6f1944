-- How far an input is read.
use Rattle.std.specs.Prelude.{◌≡◌, ◌⊎◌, ◌≤◌, ◌==◌, ℕ, Bool, false, List, length, Option, Result, Ok, Err}
use Rattle.std.specs.Io.KnownBytes.{Consumes, IsAtEnd}

-- a read has come to the end if it gave nothing
abbrev pub TellsEnd : {E : Type 0} → Result ℕ E → Bool → Type 0
TellsEnd (Ok count) ended = ended ≡ (count == 0)
TellsEnd (Err e) ended = ended ≡ false

-- the first octets are read, at most one more than an input may have
abbrev pub ReadsFirst : Option (List ℕ) → Option (List ℕ) → Type 0
ReadsFirst old new = (first : List ℕ) × Consumes old new first × (length first ≤ 268435457)

-- all octets are read, or 268,435,457, which are too many for an input
abbrev pub ReadsAll : Option (List ℕ) → Option (List ℕ) → Type 0
ReadsAll old new = (first : List ℕ) × Consumes old new first × (IsAtEnd new ⊎ (length first ≡ 268435457))
