use Rattle.std.proofs.Common.{◌≡◌, ◌≤◌, ◌<◌, ℕ, List, [], ◌∷◌, length, inl, inr, refl, arith}
use Rattle.routing.specs.Vector.{infinite}
use Rattle.routing.specs.Walks.{IsWalk}
use Rattle.routing.proofs.law.wrong_distances.Goals as goal

-- a walk from one IMP to another has a line
not_at_once : (walk : List ℕ) → length walk ≡ 0 → IsWalk ((1, 2) ∷ []) 1 walk 2 → ⊥
not_at_once [] none there = let same : 1 ≡ 2 = there in absurd (omega (arith, same))
not_at_once (imp ∷ rest) none there = absurd (omega (arith, none))

-- and none leads over no line
without_lines : (walk : List ℕ) → IsWalk [] 1 walk 2 → ⊥
without_lines [] there = let same : 1 ≡ 2 = there in absurd (omega (arith, same))
without_lines (imp ∷ rest) (inl (place, lt, is), more) = absurd (omega (arith, lt))
without_lines (imp ∷ rest) (inr (place, lt, is), more) = absurd (omega (arith, lt))

pub returns-clause-longer : goal.returns-clause-longer
returns-clause-longer c d = elim d [
  | inl s ↦ (let le : 2 ≤ 1 = s.shortest (3 ∷ []) (inl (2, omega arith, refl), refl) in omega (arith, le))
  | inr u ↦ (let same : 2 ≡ infinite = u.infinite_distance in absurd (omega (arith, same)))
]

pub returns-clause-shorter : goal.returns-clause-shorter
returns-clause-shorter c d = elim d [
  | inl s ↦ not_at_once s.walk s.attained s.is_walk
  | inr u ↦ (let same : 0 ≡ infinite = u.infinite_distance in absurd (omega (arith, same)))
]

pub returns-clause-joined : goal.returns-clause-joined
returns-clause-joined c d = elim d [
  | inl s ↦ (let lt : infinite < infinite = s.finite in omega (arith, lt))
  | inr u ↦ u.no_walk (2 ∷ []) (inl (0, omega arith, refl), refl)
]

pub returns-clause-apart : goal.returns-clause-apart
returns-clause-apart c d = elim d [
  | inl s ↦ without_lines s.walk s.is_walk
  | inr u ↦ (let same : 1 ≡ infinite = u.infinite_distance in absurd (omega (arith, same)))
]
