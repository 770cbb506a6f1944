-- The first of what waits.
use Rattle.std.proofs.Common.{◌≡◌, List, [], ◌∷◌, slice_get, drop, Some, ap}

-- a list is its first element and what is dropped after it
pub first_is : {X : Type 0} (xs : List X) (x : X) → slice_get xs 0 ≡ Some x → xs ≡ x ∷ drop 1 xs
first_is [] x e = cc
first_is (y ∷ xs) x e =
    let same : y ≡ x = cc in
    ap (λ (z : _). z ∷ xs) same
