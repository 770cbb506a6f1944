use Rattle.std.proofs.Common.{◌≡◌, ℕ, ◌+◌, ◌-◌, ◌<◌, List, length, get_or, subst, arith, inl, inr}
use Rattle.std.proofs.lemmas.Bool.{cases_lt}
use Rattle.std.proofs.lemmas.Grind.{same_number_lists}
use Rattle.routing.proofs.vector.are_same.Goals as goal

-- numbers that are the same in both halves are the same
by_halves : (xs ys : List ℕ) → length xs ≡ 63 → length ys ≡ 63 → ((k : ℕ) → k < 32 → (get_or xs k 0 ≡ get_or ys k 0) × (get_or xs (k + 31) 0 ≡ get_or ys (k + 31) 0)) → xs ≡ ys
by_halves xs ys those these halves = same_number_lists xs ys (omega arith) (λ k below. elim (cases_lt k 32) [
  | inl lt ↦ (halves k lt).0
  | inr le ↦
      let back : k - 31 + 31 ≡ k = omega (arith, le) in
      subst (λ (n : ℕ). get_or xs n 0 ≡ get_or ys n 0) back (halves (k - 31) (omega (arith, below))).1
])

pub returns : goal.returns
returns c = (λ same. by_halves c.args.these.now c.args.those.now c.told-these c.told-those (λ k below. c.loop-place.invariant.told same k (omega (arith, below))), c.loop-place.invariant.found)
