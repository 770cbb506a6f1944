-- Which packets may be left, for short lists.
use Rattle.flow_law.proofs.Common.{List, [], ◌∷◌, inl, inr, refl, subst, arith, Contains, Contains-push_cases, Packet, contains_none}
use Rattle.flow_law.specs.Moves.{Either}
use Rattle.flow_law.proofs.Clauses.{only_one}

-- the element of a list of one
pub only : {X : Type 0} (P : X → Type 0) (x z : X) → P x → Contains (x ∷ []) z → P z
only P x z px there = subst P (only_one x z there) px

-- each element of a list of two
each_of_two : {X : Type 0} (P : X → Type 0) (x y z : X) → P x → P y → Contains (x ∷ y ∷ []) z → P z
each_of_two P x y z px py there = elim (Contains-push_cases (x ∷ []) y z there) [
  | inl first ↦ only P x z px first
  | inr second ↦ subst P second py
]

pub second_there : {X : Type 0} (x y : X) (xs : List X) → Contains (x ∷ y ∷ xs) y
second_there x y xs = (1, omega arith, refl)

-- nothing is left
pub left_none : (alive made : Packet → Type 0) (x : Packet) → Contains [] x → Either alive made x
left_none alive made x there = absurd (contains_none x there)

-- one of those that were alive is left
pub left_old : (alive made : Packet → Type 0) (y : Packet) → alive y → (x : Packet) → Contains (y ∷ []) x → Either alive made x
left_old alive made y old x there = only (Either alive made) y x (inl old) there

-- one that was made is left
pub left_made : (alive made : Packet → Type 0) (y : Packet) → made y → (x : Packet) → Contains (y ∷ []) x → Either alive made x
left_made alive made y new x there = only (Either alive made) y x (inr new) there

-- one that was made and one that was alive are left
pub left_both : (alive made : Packet → Type 0) (y z : Packet) → made y → alive z → (x : Packet) → Contains (y ∷ z ∷ []) x → Either alive made x
left_both alive made y z new old x there = each_of_two (Either alive made) y z x (inr new) (inl old) there
