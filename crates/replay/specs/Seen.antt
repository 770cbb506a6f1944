-- When what a long calm prints is handed on: as its rounds pass.
use Rattle.std.specs.Prelude.{◌≡◌, ◌⊎◌, ◌<◌, ◌≤◌, ℕ, zero, suc, List, Option, None, Some}
use Rattle.std.specs.Io.KnownBytes.{Appends}
use Rattle.script.specs.Input.{ended_line}
use Rattle.replay.specs.InTurn.{Happening, InTurn, text_of}

-- this many rounds pass one after the other, each as is said of a round after those before it, and each after the 64th
-- is seen when it has passed
abbrev pub RoundsPass : {T : Type 0} → (ℕ → T → T → Type 0) → (T → Type 0) → ℕ → T → T → Type 0
RoundsPass Goes IsSeen zero old new = new ≡ old
RoundsPass {T} Goes IsSeen (suc passed) old new =
    (mid : T) × RoundsPass Goes IsSeen passed old mid × Goes passed mid new × (64 ≤ passed → IsSeen new)

-- a calm of more than 64 rounds passes so: all of them, or the first ones till the world rests
abbrev pub HandsOn : {T : Type 0} → (ℕ → T → T → Type 0) → (T → Type 0) → (T → Type 0) → Option ℕ → T → T → Type 0
HandsOn Goes IsSeen Rests None old new = Unit {0}
HandsOn Goes IsSeen Rests (Some rounds) old new =
    64 < rounds → (passed : ℕ) × (passed ≤ rounds) × RoundsPass Goes IsSeen passed old new
    × ((passed ≡ rounds) ⊎ Rests new)

-- an event happens between two states, each of them beside the writer of what is printed; the lines that it shows are
-- printed, and handed on as is said
pub record IsSeen {S E L W : Type 0} (Happens : Happening S E L) (text : L → List ℕ) (contents : W → Option (List ℕ))
    (Handed : S × W → E → S × W → Type 0) (old : S × W) (e : E) (new : S × W) (shown : List L) : Type 0 where
  pub happens : Happens old.0 e new.0 shown
  pub printed : Appends (contents old.1) (contents new.1) (text_of text shown)
  pub handed : Handed old e new

-- and so all events, one after the other
abbrev pub AreSeen : {S E L W : Type 0} → Happening S E L → (L → List ℕ) → (W → Option (List ℕ))
    → (S × W → E → S × W → Type 0) → S × W → List E → S × W → Type 0
AreSeen {S} {E} {L} Happens text contents Handed old events new =
    (shown : List L) × InTurn (IsSeen Happens text contents Handed) old events new shown

-- after this line
abbrev pub SeenAfter : {S W : Type 0} → List ℕ → (W → Option (List ℕ)) → (S × W → S × W → Type 0) → S × W → S × W
    → Type 0
SeenAfter {S} {W} line contents Seen old new =
    (opened : W) × Appends (contents old.1) (contents opened) (ended_line line) × Seen (old.0, opened) new
