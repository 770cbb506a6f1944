use Rattle.std.proofs.Common.{◌≡◌, ◌<◌, ℕ, List, [], ◌∷◌, length, inl, inr, arith}
use Rattle.routing.specs.Vector.{infinite}
use Rattle.routing.specs.Walks.{IsWalk, IsDistance}
use Rattle.routing.proofs.law.wrong_next_lines.Goals as goal

-- two IMPs are not at the distance 0
apart : (graph : List (ℕ × ℕ)) (from to : ℕ) → (from ≡ to → ⊥) → IsDistance graph from to 0 → ⊥
apart graph from to other d = elim d [
  | inl s ↦ at_once s.walk s.attained s.is_walk
  | inr u ↦ (let same : 0 ≡ infinite = u.infinite_distance in absurd (omega (arith, same)))
]
  where
    at_once : (walk : List ℕ) → length walk ≡ 0 → IsWalk graph from walk to → ⊥
    at_once [] none there = other there
    at_once (imp ∷ rest) none there = absurd (omega (arith, none))

pub returns-clause-back : goal.returns-clause-back
returns-clause-back c nearer = apart ((1, 2) ∷ (2, 3) ∷ []) 1 3 (λ (same : 1 ≡ 3). omega (arith, same)) nearer.1

pub returns-clause-as_near : goal.returns-clause-as_near
returns-clause-as_near c nearer = apart ((1, 2) ∷ (2, 3) ∷ (1, 3) ∷ []) 2 3 (λ (same : 2 ≡ 3). omega (arith, same)) nearer.1

pub returns-clause-no_port : goal.returns-clause-no_port
returns-clause-no_port c nearer = let lt : 1 < 1 = nearer.0 in omega (arith, lt)
