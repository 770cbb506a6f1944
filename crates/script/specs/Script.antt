-- Scripts: one event a line.
use Rattle.std.specs.Prelude.{◌≡◌, ◌≢◌, ℕ, ◌≤◌, ◌-◌, ◌==◌, Bool, true, not, List, [], ◌∷◌, Option, Some, None, map, take, slice_get, filter}
use Rattle.std.specs.Borrow.{Bor}
use Rattle.std.specs.List.{All, slice_split}
use Rattle.script.specs.Spelling.{spelling, IsEvent, WantsMemory}
use Rattle.script.specs.declared.event.RawEvent.{RawEvent}
use Rattle.script.specs.declared.fault.LineFault.{LineFault}
use Rattle.script.specs.declared.fault.LineFault.TheVariants as fault

-- the lines of a text: each ends before an octet 10, or where the text ends
abbrev pub lines_of : List ℕ → List (List ℕ)
lines_of text = slice_split (λ b. b == 10) text

-- the lines after a line, where there are any
abbrev pub lines_after : Option (Bor (List ℕ)) → List (List ℕ)
lines_after None = []
lines_after (Some text) = lines_of text.now

-- an empty line, or a comment, which begins with octet 35 (`#`)
abbrev pub is_passed_over : List ℕ → Bool
is_passed_over [] = true
is_passed_over (c ∷ cs) = c == 35

-- every other line asks for an event
abbrev pub asks : List ℕ → Bool
asks line = not (is_passed_over line)

-- ---- events of any kind, by how they are spelled and which of them are valid

-- the lines that are not ignored spell these events, in order
pub record AskForAs {E : Type 0} (spelled_as : E → List ℕ) (IsMeant : E → Type 0) (events : List E) (lines : List (List ℕ)) : Type 0 where
  pub spelled : map spelled_as events ≡ filter asks lines
  pub meant : All IsMeant events

-- this line of a text, counted from 1, asks for something, and the lines before it ask for events
pub record IsReachedAs {E : Type 0} (spelled_as : E → List ℕ) (IsMeant : E → Type 0) (text : List ℕ) (number : ℕ) (line : List ℕ) : Type 0 where
  pub counted : 1 ≤ number
  pub there : slice_get (lines_of text) (number - 1) ≡ Some line
  pub asks : asks line ≡ true
  pub events : List E
  pub before : AskForAs spelled_as IsMeant events (take (number - 1) (lines_of text))

-- it is the first line that spells no event
pub record IsFirstBadAs {E : Type 0} (spelled_as : E → List ℕ) (IsMeant : E → Type 0) (text : List ℕ) (number : ℕ) : Type 0 where
  pub line : List ℕ
  pub reached : IsReachedAs spelled_as IsMeant text number line
  pub bad : (e : E) → IsMeant e → line ≢ spelled_as e

-- memory ran out at a line that needs some
pub record RanOutAs {E : Type 0} (spelled_as : E → List ℕ) (IsMeant : E → Type 0) (Wants : List ℕ → Type 0) (text : List ℕ) : Type 0 where
  pub number : ℕ
  pub line : List ℕ
  pub reached : IsReachedAs spelled_as IsMeant text number line
  pub wants : Wants line

-- why a script has no events: its first bad line, or that memory ran out
abbrev pub IsLineFaultAs : {E : Type 0} → (E → List ℕ) → (E → Type 0) → (List ℕ → Type 0) → List ℕ → LineFault → Type 0
IsLineFaultAs spelled IsMeant Wants text (fault.BadLine number) = IsFirstBadAs spelled IsMeant text number
IsLineFaultAs spelled IsMeant Wants text fault.OutOfMemory = RanOutAs spelled IsMeant Wants text

-- ---- the events of a network without host programs

-- the lines that are not ignored spell these events, in order
abbrev pub AskFor : List RawEvent → List (List ℕ) → Type 0
AskFor events lines = AskForAs spelling IsEvent events lines

-- this is the first line that spells no event
abbrev pub IsFirstBad : List ℕ → ℕ → Type 0
IsFirstBad text number = IsFirstBadAs spelling IsEvent text number

-- why a script has no events: its first bad line, or that memory ran out
abbrev pub IsLineFault : List ℕ → LineFault → Type 0
IsLineFault text f = IsLineFaultAs spelling IsEvent WantsMemory text f
