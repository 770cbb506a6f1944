-- Events of any kind one after the other, each of which shows lines.
use Rattle.std.specs.Prelude.{◌≡◌, ℕ, List, [], ◌∷◌, ◌++◌, Option}
use Rattle.std.specs.List.{flat_map}
use Rattle.std.specs.Io.KnownBytes.{Appends}
use Rattle.script.specs.Input.{ended_line}

-- how an event may go: what there is before it, the event, what there is after it, and the lines that it shows
abbrev pub Happening : Type 0 → Type 0 → Type 0 → Type 1
Happening S E L = S → E → S → List L → Type 0

-- the events happen one after the other, and show these lines together
abbrev pub InTurn : {S E L : Type 0} → Happening S E L → S → List E → S → List L → Type 0
InTurn Happens old [] new shown = (new ≡ old) × (shown ≡ [])
InTurn {S} {E} {L} Happens old (e ∷ events) new shown =
    (mid : S) × (first : List L) × (rest : List L) × Happens old e mid first × InTurn Happens mid events new rest × (shown ≡ first ++ rest)

-- the events before the last one happened, the last one went as is said, and these lines were shown by then
pub record EndsInTurn {S E L : Type 0} (Happens Goes : Happening S E L) (old : S) (events : List E) (new : S) (shown : List L) : Type 0 where
  pub done : List E
  pub last : E
  pub left : List E
  pub parts : events ≡ done ++ last ∷ left
  pub mid : S
  pub front : List L
  pub before : InTurn Happens old done mid front
  pub own : List L
  pub goes : Goes mid last new own
  pub lines : shown ≡ front ++ own

-- lines, each with its end
abbrev pub text_of : {L : Type 0} → (L → List ℕ) → List L → List ℕ
text_of text shown = flat_map (λ s. ended_line (text s)) shown

-- some lines were written, and this holds of them
pub record WritesLines {L : Type 0} (text : L → List ℕ) (IsShown : List L → Type 0) (before after : Option (List ℕ)) : Type 0 where
  pub shown : List L
  pub is_shown : IsShown shown
  pub written : Appends before after (text_of text shown)

-- what happens leaves no choice
abbrev pub HappensOnce : {S E L : Type 0} → Happening S E L → Type 0
HappensOnce {S} {E} {L} Happens = (old : S) (e : E) (new other : S) (shown more : List L) → Happens old e new shown → Happens old e other more → (new ≡ other) × (shown ≡ more)

-- what is shown by the one is the first part of what is shown by the other
abbrev pub ShowsFront : {S E L : Type 0} → Happening S E L → Happening S E L → Type 0
ShowsFront {S} {E} {L} Goes Happens = (old : S) (e : E) (new other : S) (part whole : List L) → Goes old e new part → Happens old e other whole → (rest : List L) × (whole ≡ part ++ rest)
