-- The codes of the two tables. A model whose value is a record that holds them needs these: its `coded` is
-- `Prim.hlevel (codes, coded_sources, coded_destinations)`, with `codes` of std.
use Rattle.std.specs.Prelude.{◌≡◌, ℕ, zero, suc, refl}
use Rattle.std.specs.Coded.{Coded, code_by, coded×, coded_ℕ}
use Rattle.std.specs.FinMap as map
use Rattle.link_table.specs.Keys.{coded_flow}
use Rattle.link_table.specs.Flows.{Sources, Destinations}
use Rattle.link_table.specs.declared.source.Standing.{Standing}
use Rattle.link_table.specs.declared.source.Standing.TheVariants as standing
use Rattle.link_table.specs.declared.destination.Fate.{Fate}
use Rattle.link_table.specs.declared.destination.Fate.TheVariants as fate
use Rattle.link_table.specs.declared.destination.Noted.{Noted}

-- a `Standing` as two numbers
abbrev pub number_of : Standing → ℕ × ℕ
number_of (standing.Idle l) = (0, l)
number_of (standing.Outstanding l) = (1, l)
number_of (standing.Answered l) = (2, l)

abbrev pub standing_by : ℕ → ℕ → Standing
standing_by zero l = standing.Idle l
standing_by (suc zero) l = standing.Outstanding l
standing_by (suc (suc kind)) l = standing.Answered l

abbrev pub standing_again : (s : Standing) → standing_by (number_of s).0 (number_of s).1 ≡ s
standing_again (standing.Idle l) = refl
standing_again (standing.Outstanding l) = refl
standing_again (standing.Answered l) = refl

abbrev pub coded_standing : Coded Standing
coded_standing = code_by (ℕ × ℕ) (coded× coded_ℕ coded_ℕ) number_of (λ p. standing_by p.0 p.1) standing_again

-- a fate as a number
abbrev pub fate_number : Fate → ℕ
fate_number fate.Waits = 0
fate_number fate.Taken = 1
fate_number fate.Dead = 2
fate_number fate.Never = 3

abbrev pub fate_by : ℕ → Fate
fate_by zero = fate.Waits
fate_by (suc zero) = fate.Taken
fate_by (suc (suc zero)) = fate.Dead
fate_by (suc (suc (suc n))) = fate.Never

abbrev pub fate_again : (new : Fate) → fate_by (fate_number new) ≡ new
fate_again fate.Waits = refl
fate_again fate.Taken = refl
fate_again fate.Dead = refl
fate_again fate.Never = refl

abbrev pub coded_fate : Coded Fate
coded_fate = code_by ℕ coded_ℕ fate_number fate_by fate_again

abbrev pub coded_noted : Coded Noted
coded_noted = code_by (ℕ × Fate) (coded× coded_ℕ coded_fate) (λ k. (k.number, k.fate)) (λ p. record { number = p.0; fate = p.1 }) (λ _. refl)

abbrev pub coded_sources : Coded Sources
coded_sources = map.code coded_flow coded_standing

abbrev pub coded_destinations : Coded Destinations
coded_destinations = map.code coded_flow coded_noted
