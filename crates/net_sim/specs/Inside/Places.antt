-- Lives at places.
use Rattle.std.specs.Prelude.{ℕ, zero, suc, Bool, false, not, List, [], ◌∷◌, Option, Some, None, slice_get}
use Rattle.promise.specs.declared.life.Life.{Life}

-- whether a life is there and hasn't ended
abbrev pub is_open : Option Life → Bool
is_open None = false
is_open (Some x) = not x.ended

abbrev pub is_open_at : List Life → ℕ → Bool
is_open_at lives at = is_open (slice_get lives at)

-- a change of the life at a place, and at places, one after the other
abbrev pub changed_here : (Life → Life) → ℕ → List Life → List Life
changed_here f at [] = []
changed_here f zero (x ∷ xs) = f x ∷ xs
changed_here f (suc at) (x ∷ xs) = x ∷ changed_here f at xs

abbrev pub changed_at : (Life → Life) → List ℕ → List Life → List Life
changed_at f [] xs = xs
changed_at f (at ∷ ats) xs = changed_at f ats (changed_here f at xs)
