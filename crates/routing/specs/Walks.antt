-- Walks over the live lines of a network, and distances.
use Rattle.std.specs.Prelude.{◌≡◌, ℕ, ◌<◌, ◌≤◌, ◌⊎◌, List, [], ◌∷◌, length, Contains}
use Rattle.routing.specs.Vector.{infinite}

-- two IMPs are joined where a live line has them at its ends
abbrev pub AreJoined : List (ℕ × ℕ) → ℕ → ℕ → Type 0
AreJoined graph a b = Contains graph (a, b) ⊎ Contains graph (b, a)

-- a walk from one IMP to another, as the list of the IMPs after the first: each is joined to the next
abbrev pub IsWalk : List (ℕ × ℕ) → ℕ → List ℕ → ℕ → Type 0
IsWalk graph from [] to = from ≡ to
IsWalk graph from (imp ∷ rest) to = AreJoined graph from imp × IsWalk graph imp rest to

-- the length of a shortest walk, below the infinite distance
pub record IsShortest (graph : List (ℕ × ℕ)) (from to distance : ℕ) : Type 0 where
  pub finite : distance < infinite
  pub walk : List ℕ
  pub is_walk : IsWalk graph from walk to
  pub attained : length walk ≡ distance
  pub shortest : (other : List ℕ) → IsWalk graph from other to → distance ≤ length other

-- no walk leads there
pub record IsUnreachable (graph : List (ℕ × ℕ)) (from to distance : ℕ) : Type 0 where
  pub infinite_distance : distance ≡ infinite
  pub no_walk : (walk : List ℕ) → IsWalk graph from walk to → ⊥

-- the distance of two IMPs: the length of a shortest walk, or infinite where there is none
abbrev pub IsDistance : List (ℕ × ℕ) → ℕ → ℕ → ℕ → Type 0
IsDistance graph from to distance = IsShortest graph from to distance ⊎ IsUnreachable graph from to distance
