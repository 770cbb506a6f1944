-- The two parts of an input.
use Rattle.std.specs.Prelude.{◌≡◌, ◌≢◌, ℕ, List, [], ◌∷◌, ◌++◌, ◌⊎◌, codes}
use Rattle.std.specs.List.{All, flat_map}
use Rattle.script.specs.Script.{lines_of}

-- a line with its end
abbrev pub ended_line : List ℕ → List ℕ
ended_line line = line ++ 10 ∷ []

-- an input is a topology, the first line that is exactly `%`, and a script, or nothing after that line
pub record IsParted (input topology script : List ℕ) : Type 0 where
  pub before : List (List ℕ)
  pub front : topology ≡ flat_map ended_line before
  pub unmarked : All (λ line. line ≢ codes "%") before
  pub lines : (lines_of input ≡ before ++ codes "%" ∷ lines_of script) ⊎ ((lines_of input ≡ before ++ codes "%" ∷ []) × (script ≡ []))
