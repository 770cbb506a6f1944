-- What a replay prints.
use Rattle.std.specs.Prelude.{ℕ, List, [], ◌∷◌, ◌++◌, Option, Result, Ok, Err, codes}
use Rattle.interface.specs.Printed.{crossing_text}
use Rattle.interface.specs.declared.carrier.CarrierFault.{CarrierFault}
use Rattle.interface.specs.declared.carrier.CarrierFault.TheVariants as fault
use Rattle.interface.specs.declared.crossing.Crossing.{Crossing}
use Rattle.interface.specs.declared.crossing.Crossing.TheVariants as crossing
use Rattle.replay.specs.InTurn.{WritesLines, text_of}
use Rattle.replay.specs.declared.print.Detail.{Detail}
use Rattle.replay.specs.declared.print.Detail.TheVariants.{Sizes, Texts}
use Rattle.script.specs.Spelling.{octets_text}

-- the name of a refusal
abbrev pub fault_name : CarrierFault → List ℕ
fault_name fault.NoSuch = codes "NoSuch"
fault_name fault.StillAlive = codes "StillAlive"
fault_name fault.IsDown = codes "IsDown"
fault_name fault.IsUp = codes "IsUp"
fault_name fault.Unsettled = codes "Unsettled"
fault_name fault.NotOutstanding = codes "NotOutstanding"
fault_name fault.Blocked = codes "Blocked"
fault_name fault.NoRoom = codes "NoRoom"
fault_name fault.Stopped = codes "Stopped"
fault_name fault.OutOfMemory = codes "OutOfMemory"

-- one line that a replay prints: a crossing or a refusal
pub data Shown : Type 0 where
  Crossed : Crossing → Shown
  Refused : CarrierFault → Shown

-- what is after the bits of a message where texts are printed: its octets, as a script spells them
abbrev pub spelled : Crossing → List ℕ
spelled (crossing.Out m) = codes " " ++ octets_text m.text
spelled (crossing.In m) = codes " " ++ octets_text m.text
spelled (crossing.Answer kind f) = []
spelled (crossing.Down h) = []
spelled (crossing.Up h) = []

-- the line of a crossing: of a text its size, or its size and its octets
abbrev pub crossing_line : Detail → Crossing → List ℕ
crossing_line Sizes c = crossing_text c
crossing_line Texts c = crossing_text c ++ spelled c

-- one line, without its end
abbrev pub shown_text : Detail → Shown → List ℕ
shown_text detail (Crossed c) = crossing_line detail c
shown_text detail (Refused f) = codes "refused " ++ fault_name f

-- all lines, each with its end
abbrev pub output : Detail → List Shown → List ℕ
output detail shown = text_of (shown_text detail) shown

-- what crossed, oldest first
abbrev pub crossings_of : List Shown → List Crossing
crossings_of [] = []
crossings_of (Crossed c ∷ shown) = c ∷ crossings_of shown
crossings_of (Refused f ∷ shown) = crossings_of shown

-- some lines were written, and this holds of them
abbrev pub Writes : Detail → (List Shown → Type 0) → Option (List ℕ) → Option (List ℕ) → Type 0
Writes detail IsShown before after = WritesLines (shown_text detail) IsShown before after

-- an event that was refused shows its refusal
abbrev pub shown_refusal : Result (Unit {0}) CarrierFault → List Shown
shown_refusal (Ok done) = []
shown_refusal (Err f) = Refused f ∷ []

-- each crossing is shown
abbrev pub shown_crossings : List Crossing → List Shown
shown_crossings [] = []
shown_crossings (c ∷ crossings) = Crossed c ∷ shown_crossings crossings
