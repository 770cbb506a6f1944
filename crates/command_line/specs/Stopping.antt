-- What is written where memory runs out.
use Rattle.std.specs.Prelude.{◌⊎◌, ℕ, List, Option}
use Rattle.std.specs.Io.KnownBytes.{Keeps}

-- nothing, or what a first part of the replay writes
abbrev pub NothingOr : (Option (List ℕ) → Option (List ℕ) → Type 0) → Option (List ℕ) → Option (List ℕ) → Type 0
NothingOr WritesPart before after = Keeps before after ⊎ WritesPart before after
