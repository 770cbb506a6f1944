-- A prefix of a list, and what follows it.
use Rattle.std.proofs.Common.{◌≡◌, ℕ, List, [], ◌∷◌, length, take, drop, min, refl, ap, sym, ◌∙◌}
use Rattle.std.proofs.lemmas.List.{length-take}

pub none_left : {A : Type 0} (xs : List A) → drop (length xs) xs ≡ []
none_left [] = refl
none_left (x ∷ xs) = none_left xs

-- after all of a prefix there is nothing
pub none_behind : {A : Type 0} (count : ℕ) (xs : List A) → drop (min count (length xs)) (take count xs) ≡ []
none_behind count xs = ap (λ (k : ℕ). drop k (take count xs)) (sym (length-take count xs)) ∙ none_left (take count xs)
