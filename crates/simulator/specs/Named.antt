-- The input that the words of a command line name.
use Rattle.std.specs.Prelude.{◌≡◌, ◌≢◌, ℕ, ◌<◌, Bool, true, false, not, List, [], ◌∷◌, Option, Some, None, Result, String, IfSome, codes, length, map, nat_eq, slice_index_or, string_bytes, take}
use Rattle.std.specs.List.{filter}
use Rattle.command_line.specs.Options.{options_of, task_of}
use Rattle.command_line.specs.declared.options.Task.TheVariants as task
use Rattle.simulator.specs.Program.{Closes, EndsProgram, LeavesUntouched, sides}
use Rattle.simulator.specs.declared.program.Done.{Done}
use Rattle.simulator.specs.declared.program.ProgramFault.{ProgramFault}

-- whether a word names the input: `-` does, and each word that doesn't begin with `-` (45); an empty one doesn't
abbrev pub names_input : List ℕ → Bool
names_input [] = false
names_input (letter ∷ []) = true
names_input (letter ∷ next ∷ more) = not (nat_eq letter 45)

-- the only name; `-` where there is none
abbrev pub only_name : List (List ℕ) → Option (List ℕ)
only_name [] = Some (codes "-")
only_name (name ∷ []) = Some name
only_name (name ∷ other ∷ more) = None

-- the name of the input: `-` is standard input, and any other that of a file. It may be any of the words; two are refused
abbrev pub input_of : List (List ℕ) → Option (List ℕ)
input_of words = only_name (filter names_input words)

-- the other words, which ask for a task, or for a replay with options
abbrev pub others_of : List (List ℕ) → List (List ℕ)
others_of words = filter (λ word. not (names_input word)) words

-- the same of the words of a command line
abbrev pub input_in : {Z : Type 0} → List (String Z) → Option (List ℕ)
input_in words = input_of (map string_bytes words)

abbrev pub others_in : {Z : Type 0} → List (String Z) → List (List ℕ)
others_in words = others_of (map string_bytes words)

-- on this input the program does what the words ask for. What is left of it, and whether a read failed, is the reader's own
pub record RunsOn (input : Option (List ℕ)) (words : List (List ℕ)) (before after : Option (List ℕ)) (unwritten flushed : Bool) (Untouched : Type 0) (r : Result Done ProgramFault) : Type 0 where
  pub left : Option (List ℕ)
  pub unread : Bool
  pub ends : EndsProgram words (sides input left unread before after) r
  pub closes : Closes r unread unwritten flushed Untouched
  -- words that are refused leave the input unread
  pub refused : task_of words ≡ None → options_of words ≡ None → (left ≡ input) × Untouched
  -- a fault with another status than 3 leaves nothing written, but for a live session
  pub untouched : task_of words ≢ Some task.Live → LeavesUntouched r Untouched

-- so it ends on the input that the words name, where these are the octets of inputs by their names
abbrev pub EndsNamed : {Z : Type 0} → List (String Z) → (List ℕ → Option (List ℕ)) → Option (List ℕ) → Option (List ℕ) → Bool → Bool → Type 0 → Result Done ProgramFault → Type 0
EndsNamed words octets_of before after unwritten flushed Untouched r =
    IfSome (input_in words) (λ name. RunsOn (octets_of name) (others_in words) before after unwritten flushed Untouched r)

-- ---- what the contracts of private functions say

-- this is the place of the first word that names the input
abbrev pub IsNamePlace : {Z : Type 0} → List (String Z) → Option ℕ → Type 0
IsNamePlace words None = filter names_input (map string_bytes words) ≡ []
IsNamePlace {Z} words (Some place) =
    (place < length words) × (filter names_input (map string_bytes (take place words)) ≡ [])
    × ((word : String Z) → word ≡ slice_index_or words place word → names_input (string_bytes word) ≡ true)

-- the name of the input, of the word that was taken out
abbrev pub taken_name : {Z : Type 0} → Option (String Z) → List ℕ
taken_name None = codes "-"
taken_name (Some name) = string_bytes name
