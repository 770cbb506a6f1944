-- What the replay of a world's script prints.
use Rattle.std.specs.Prelude.{ℕ, ◌-◌, List, [], ◌∷◌, ◌++◌, map, take, drop, max, Option, Result, Ok, Err}
use Rattle.host_services.specs.declared.report.Reported.{Reported}
use Rattle.interface.specs.declared.crossing.Crossing.{Crossing}
use Rattle.promise.specs.declared.book.Told.{Told}
use Rattle.promise.specs.declared.life.Life.{Life}
use Rattle.net_sim.specs.declared.event.WorldFault.{WorldFault}
use Rattle.replay.specs.InTurn.{WritesLines, text_of}
use Rattle.replay.specs.Output.{crossing_line}
use Rattle.replay.specs.declared.print.Detail.{Detail}
use Rattle.world_replay.specs.Printed.{life_text, refusal_text, reported_text, told_text}

-- one line that a replay prints: a crossing, something that a user was notified, something that a service reported, or a refusal
pub data Shown : Type 0 where
  Crossed : Crossing → Shown
  Noticed : Told → Shown
  Said : Reported → Shown
  Refused : WorldFault → Shown

-- one line, without its end
abbrev pub shown_text : Detail → Shown → List ℕ
shown_text detail (Crossed c) = crossing_line detail c
shown_text detail (Noticed t) = told_text t
shown_text detail (Said r) = reported_text r
shown_text detail (Refused f) = refusal_text f

-- all lines, each with its end
abbrev pub output : Detail → List Shown → List ℕ
output detail shown = text_of (shown_text detail) shown

-- what crossed, oldest first
abbrev pub crossings_of : List Shown → List Crossing
crossings_of [] = []
crossings_of (Crossed c ∷ shown) = c ∷ crossings_of shown
crossings_of (Noticed t ∷ shown) = crossings_of shown
crossings_of (Said r ∷ shown) = crossings_of shown
crossings_of (Refused f ∷ shown) = crossings_of shown

-- the notices to users
abbrev pub notices_of : List Shown → List Told
notices_of [] = []
notices_of (Crossed c ∷ shown) = notices_of shown
notices_of (Noticed t ∷ shown) = t ∷ notices_of shown
notices_of (Said r ∷ shown) = notices_of shown
notices_of (Refused f ∷ shown) = notices_of shown

-- what services reported
abbrev pub reports_of : List Shown → List Reported
reports_of [] = []
reports_of (Crossed c ∷ shown) = reports_of shown
reports_of (Noticed t ∷ shown) = reports_of shown
reports_of (Said r ∷ shown) = r ∷ reports_of shown
reports_of (Refused f ∷ shown) = reports_of shown

-- some lines were written, and this holds of them
abbrev pub Writes : Detail → (List Shown → Type 0) → Option (List ℕ) → Option (List ℕ) → Type 0
Writes detail IsShown before after = WritesLines (shown_text detail) IsShown before after

-- an event that was refused shows its refusal
abbrev pub shown_refusal : Result (Unit {0}) WorldFault → List Shown
shown_refusal (Ok done) = []
shown_refusal (Err f) = Refused f ∷ []

abbrev pub shown_crossings : List Crossing → List Shown
shown_crossings crossings = map (λ c. Crossed c) crossings

abbrev pub shown_notices : List Told → List Shown
shown_notices notices = map (λ t. Noticed t) notices

-- reports among notices, where this many notices was in the book before these: each report is after the notice that it is
-- about, which is the last of those that it counts, and after the earlier reports about it
abbrev pub told_in_turn : ℕ → List Told → List Reported → List Shown
told_in_turn before notices [] = shown_notices notices
told_in_turn before notices (r ∷ reports) =
    shown_notices (take (r.notices - before) notices) ++ Said r ∷ told_in_turn (max before r.notices) (drop (r.notices - before) notices) reports

-- how many crossings was in the book before something that isn't a crossing. A report follows its notice, and needs none
abbrev pub place_of : Shown → ℕ
place_of (Crossed c) = 0
place_of (Noticed t) = t.place
place_of (Said r) = 0
place_of (Refused f) = 0

-- news among crossings, where this many crossings was in the book before these: each notice is after the crossings that
-- were before it
abbrev pub shown_in_turn : ℕ → List Crossing → List Shown → List Shown
shown_in_turn before crossings [] = shown_crossings crossings
shown_in_turn before crossings (s ∷ news) =
    shown_crossings (take (place_of s - before) crossings) ++ s ∷ shown_in_turn (max before (place_of s)) (drop (place_of s - before) crossings) news

-- the lives of a book, one line each
abbrev pub lives_output : List Life → List ℕ
lives_output lives = text_of life_text lives
