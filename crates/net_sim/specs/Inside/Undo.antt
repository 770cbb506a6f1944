-- How what was done to the lives is taken back.
use Rattle.std.specs.Prelude.{◌≡◌, ◌⊎◌, ℕ, zero, suc, Bool, false, List, [], ◌∷◌, ◌++◌, length, min, take}
use Rattle.promise.specs.declared.life.Life.{Life}
use Rattle.promise.specs.declared.life.Amount.{Amount}
use Rattle.promise.specs.declared.life.Fate.{Fate}
use Rattle.net_sim.specs.Inside.Lives.{LivesState}
use Rattle.net_sim.specs.Inside.Places.{changed_here}
pub use Rattle.net_sim.specs.declared.undo.Mark.{Mark}
pub use Rattle.net_sim.specs.declared.undo.Undo.{Undo}
use Rattle.net_sim.specs.declared.undo.Undo.TheVariants as undo

-- the counts of a life
abbrev pub mark_of : Life → Mark
mark_of x = record { bits = length x.bits; messages = x.messages; granted = x.granted; returned = x.returned }

-- no more than it was
abbrev pub cut_amount : Amount → Amount → Amount
cut_amount was a = record { messages = min a.messages was.messages; bits = min a.bits was.bits }

-- a life with the counts that it had: they only grew since
abbrev pub life_back : Mark → Life → Life
life_back m x = record x { bits = take m.bits x.bits; messages = min x.messages m.messages; granted = cut_amount m.granted x.granted; returned = cut_amount m.returned x.returned }

abbrev pub reopened : Life → Life
reopened x = record x { ended = false }

-- the bits at a place, cut back
abbrev pub cut_here : ℕ → ℕ → List (List Bool) → List (List Bool)
cut_here n at [] = []
cut_here n zero (h ∷ hs) = take n h ∷ hs
cut_here n (suc at) (h ∷ hs) = h ∷ cut_here n at hs

-- the fate at a place, as it was
abbrev pub fate_here : Fate → ℕ → List Fate → List Fate
fate_here was at [] = []
fate_here was zero (f ∷ fs) = was ∷ fs
fate_here was (suc at) (f ∷ fs) = f ∷ fate_here was at fs

abbrev pub undone : Undo → LivesState → LivesState
undone (undo.Begun lives handed fates) s = record { lives = take lives s.lives; handed = take handed s.handed; fates = take fates s.fates }
undone (undo.Ended at) s = record { lives = changed_here reopened at s.lives; handed = s.handed; fates = s.fates }
undone (undo.Changed at was) s = record { lives = changed_here (life_back was) at s.lives; handed = s.handed; fates = s.fates }
undone (undo.Handed at bits) s = record { lives = s.lives; handed = cut_here bits at s.handed; fates = s.fates }
undone (undo.Turned at was) s = record { lives = s.lives; handed = s.handed; fates = fate_here was at s.fates }

-- what was done last is taken back first
abbrev pub all_undone : List Undo → LivesState → LivesState
all_undone [] s = s
all_undone (u ∷ us) s = undone u (all_undone us s)

-- what was done since is taken back to the same
abbrev pub GoesBack : List Undo → LivesState → List Undo → LivesState → Type 0
GoesBack us s vs t = all_undone vs t ≡ all_undone us s

-- a life stays, or how it was is noted
abbrev pub IsNoted : ℕ → List Undo → Life → List Undo → Life → Type 0
IsNoted at us x vs y = ((vs ≡ us) × (y ≡ x)) ⊎ ((was : Mark) × (vs ≡ us ++ undo.Changed at was ∷ []) × (life_back was y ≡ x))

-- a life stays, or it ended, and that is noted
abbrev pub IsEndNoted : ℕ → List Undo → Life → List Undo → Life → Type 0
IsEndNoted at us x vs y = ((vs ≡ us) × (y ≡ x)) ⊎ ((vs ≡ us ++ undo.Ended at ∷ []) × (reopened y ≡ x))

-- the same of what was handed over
abbrev pub AreNoted : ℕ → List Undo → List Bool → List Undo → List Bool → Type 0
AreNoted at us h vs g = ((vs ≡ us) × (g ≡ h)) ⊎ ((bits : ℕ) × (vs ≡ us ++ undo.Handed at bits ∷ []) × (take bits g ≡ h))

-- the same of a fate
abbrev pub IsTurnNoted : ℕ → List Undo → Fate → List Undo → Fate → Type 0
IsTurnNoted at us f vs g = ((vs ≡ us) × (g ≡ f)) ⊎ (vs ≡ us ++ undo.Turned at f ∷ [])
