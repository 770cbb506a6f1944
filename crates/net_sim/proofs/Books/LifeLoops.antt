-- Loops over lists.
use Rattle.std.proofs.Common.{◌≡◌, ℕ, ◌+◌, ◌<◌, List, ◌++◌, length, take, drop, map, slice_set, slice_index_or, ap, ◌∙◌}
use Rattle.std.proofs.lemmas.List.{get_or_default}
use Rattle.std.proofs.lemmas.List.Edits.{map_over_more}

-- one element more is changed
pub one_changed : {A : Type 0} (f : A → A) (xs ys : List A) (i : ℕ) (d y : A) → i < length xs → i < length ys → ys ≡ map f (take i xs) ++ drop i xs → y ≡ f (slice_index_or ys i d)
    → slice_set ys i y ≡ map f (take (i + 1) xs) ++ drop (i + 1) xs
one_changed {A} f xs ys i d y lt more so is =
    let x : A = slice_index_or ys i d in
    ap (λ (v : A). slice_set ys i v) is ∙ map_over_more f xs ys i x lt so (get_or_default ys i d x more)
