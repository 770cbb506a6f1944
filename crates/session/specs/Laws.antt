-- What the laws of src/ say.
use Rattle.std.specs.Prelude.{◌≡◌, ◌++◌, ℕ, List, [], ◌∷◌, codes, take}
use Rattle.session.specs.Turns.{AnswersInTurn, Turn, answers_of, script_of}

-- a script determines what is printed of it
abbrev pub PrintsOnce : (List ℕ → List ℕ → Type 0) → Type 0
PrintsOnce Prints = (script out other : List ℕ) → Prints script out → Prints script other → out ≡ other

-- the answers to all lines of a session are what is printed of its script
abbrev pub OneSession : (List ℕ → List ℕ → Type 0) → List Turn → Type 0
OneSession Prints turns = AnswersInTurn Prints turns → Prints (script_of turns) (answers_of turns)

-- what is printed of the first lines of a session is the first part of what is printed of all
abbrev pub Prefixes : (List ℕ → List ℕ → Type 0) → List Turn → Type 0
Prefixes Prints turns = PrintsOnce Prints → AnswersInTurn Prints turns → (n : ℕ) (out whole : List ℕ) → Prints (script_of (take n turns)) out → Prints (script_of turns) whole
    → (rest : List ℕ) × (whole ≡ out ++ rest)

-- ---- words for worked rows: a network on which each line is answered by itself, and a script of two lines

abbrev pub Echoes : List ℕ → List ℕ → Type 0
Echoes script said = said ≡ script

-- these are the answers to the lines `a` and `b`
abbrev pub two : List ℕ → List ℕ → List Turn
two first second = record { line = codes "a\n"; answer = first } ∷ record { line = codes "b\n"; answer = second } ∷ []
