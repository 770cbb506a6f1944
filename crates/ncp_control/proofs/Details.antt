-- The octets that an ERR quotes.
use Rattle.std.proofs.Common.{◌≡◌, ℕ, List, [], ◌∷◌, ◌++◌, length, take, drop, min, refl, arith}
use Rattle.ncp_control.specs.Command.{detail_of}

-- this many octets of these, and the rest of ten zeros
abbrev filled : List ℕ → ℕ → List ℕ
filled octets count = take count octets ++ drop (length (take count octets)) (0 ∷ 0 ∷ 0 ∷ 0 ∷ 0 ∷ 0 ∷ 0 ∷ 0 ∷ 0 ∷ 0 ∷ [])

-- ten octets or more fill the whole detail
filled_whole : (a b c d e f g h i j : ℕ) (rest : List ℕ) (count : ℕ) → count ≡ 10 → filled (a ∷ b ∷ c ∷ d ∷ e ∷ f ∷ g ∷ h ∷ i ∷ j ∷ rest) count ≡ detail_of (a ∷ b ∷ c ∷ d ∷ e ∷ f ∷ g ∷ h ∷ i ∷ j ∷ rest)
filled_whole a b c d e f g h i j rest count ten = rw ten refl

pub filled_detail : (octets : List ℕ) → filled octets (min (length octets) 10) ≡ detail_of octets
filled_detail [] = refl
filled_detail (a ∷ []) = refl
filled_detail (a ∷ b ∷ []) = refl
filled_detail (a ∷ b ∷ c ∷ []) = refl
filled_detail (a ∷ b ∷ c ∷ d ∷ []) = refl
filled_detail (a ∷ b ∷ c ∷ d ∷ e ∷ []) = refl
filled_detail (a ∷ b ∷ c ∷ d ∷ e ∷ f ∷ []) = refl
filled_detail (a ∷ b ∷ c ∷ d ∷ e ∷ f ∷ g ∷ []) = refl
filled_detail (a ∷ b ∷ c ∷ d ∷ e ∷ f ∷ g ∷ h ∷ []) = refl
filled_detail (a ∷ b ∷ c ∷ d ∷ e ∷ f ∷ g ∷ h ∷ i ∷ []) = refl
filled_detail (a ∷ b ∷ c ∷ d ∷ e ∷ f ∷ g ∷ h ∷ i ∷ j ∷ rest) = filled_whole a b c d e f g h i j rest (min (length (a ∷ b ∷ c ∷ d ∷ e ∷ f ∷ g ∷ h ∷ i ∷ j ∷ rest)) 10) (omega arith)
