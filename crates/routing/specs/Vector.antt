-- What an IMP announces to its neighbours of its distances (Heart et al., SJCC 1970, routing).
use Rattle.std.specs.Prelude.{◌≡◌, ℕ, ◌≤◌, Bool, List, length, All, nat_le, ◌==◌, ◌&&◌}
use Rattle.std.specs.List.{list_all}
use Rattle.interface.specs.Host.{most_imps}

-- the distance of an IMP that no path leads to
abbrev pub infinite : ℕ
infinite = 63

-- one distance for each IMP that there can be, none above the infinite one
pub record IsVector (distances : List ℕ) : Type 0 where
  pub one_each : length distances ≡ most_imps
  pub in_range : All (λ d. d ≤ infinite) distances

-- whether these are the distances of a vector (`IsVector`), as a test
abbrev pub is_vector : List ℕ → Bool
is_vector distances = (length distances == most_imps) && list_all (λ d. nat_le d infinite) distances
