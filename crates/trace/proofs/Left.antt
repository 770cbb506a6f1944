-- The items of a list are printed one after the other, and what is left of it is printed then.
use Rattle.trace.proofs.Common.{Appends, slice_index_or, appends_more, mark, further, listed}
use Rattle.std.proofs.Common.{◌≡◌, ℕ, zero, suc, Bool, true, false, if◌then◌else◌, ◌<◌, ◌≤◌, ◌+◌, List, [], ◌∷◌, ◌++◌, codes, drop, length, map, Option, Some, refl, slice_get, sym, ap, subst, ◌∙◌, arith}
use Rattle.std.proofs.lemmas.List.{append_assoc, drop_all, drop_more}
use Rattle.std.proofs.lemmas.Option.{slice_get_within}

-- what is left of a list, after this many items
abbrev pub left : List ℕ → List ℕ → ℕ → List (List ℕ) → List ℕ
left begin end zero xs = begin ++ listed end xs
left begin end (suc place) xs = further end xs

left_next : (begin end : List ℕ) (place : ℕ) (x : List ℕ) (xs : List (List ℕ)) → left begin end place (x ∷ xs) ≡ mark begin (codes ",") place ++ (x ++ left begin end (suc place) xs)
left_next begin end zero x xs = refl
left_next begin end (suc place) x xs = refl

-- whoever prints this rest has printed the whole from the start on
abbrev pub Remains : Option (List ℕ) → Option (List ℕ) → List ℕ → List ℕ → Type 0
Remains start now rest whole = (last : Option (List ℕ)) → Appends now last rest → Appends start last whole

-- something is printed
pub more_printed : (x rest whole : List ℕ) (a b c : Option (List ℕ)) → Remains a b (x ++ rest) whole → Appends b c x → Remains a c rest whole
more_printed x rest whole a b c remains printed = λ last more. remains last (appends_more b c last x rest printed more)

-- the next item is printed, after what comes before it
pub next_printed : (begin end x : List ℕ) (xs : List (List ℕ)) (place : ℕ) (whole : List ℕ) (a b c d : Option (List ℕ))
    → Remains a b (left begin end place (x ∷ xs)) whole → Appends b c (mark begin (codes ",") place) → Appends c d x → Remains a d (left begin end (suc place) xs) whole
next_printed begin end x xs place whole a b c d remains first item =
    more_printed x _ whole a c d
    (more_printed _ _ whole a b c (subst (λ zs. Remains a b zs whole) (left_next begin end place x xs) remains) first) item

-- the item at a place is printed
pub item_printed : (begin end : List ℕ) (xs : List (List ℕ)) (i : ℕ) (whole : List ℕ) (a b c d : Option (List ℕ)) → i < length xs
    → Remains a b (left begin end i (drop i xs)) whole → Appends b c (mark begin (codes ",") i) → Appends c d (slice_index_or xs i []) → Remains a d (left begin end (i + 1) (drop (i + 1) xs)) whole
item_printed begin end xs i whole a b c d lt remains first item =
    let here : Remains a b (left begin end i (slice_index_or xs i [] ∷ drop (i + 1) xs)) whole = subst (λ zs. Remains a b (left begin end i zs) whole) (drop_more xs i [] lt) remains in
    let sums : suc i ≡ i + 1 = omega arith in
    subst (λ (n : ℕ). Remains a d (left begin end n (drop (i + 1) xs)) whole) sums (next_printed begin end _ _ i whole a b c d here first item)

-- an item is printed that may not be in the list
pub maybe_printed : (begin end : List ℕ) (there : Bool) (x : List ℕ) (xs : List (List ℕ)) (place : ℕ) (whole : List ℕ) (a b c : Option (List ℕ))
    → Remains a b (left begin end place ((if there then x ∷ [] else []) ++ xs)) whole → Appends b c (if there then mark begin (codes ",") place ++ x else [])
    → Remains a c (left begin end (if there then 1 else place) xs) whole
maybe_printed begin end true x xs place whole a b c remains printed =
    let next : left begin end place (x ∷ xs) ≡ (mark begin (codes ",") place ++ x) ++ further end xs =
    left_next begin end place x xs ∙ sym (append_assoc (mark begin (codes ",") place) x (further end xs)) in
    more_printed _ _ whole a b c (subst (λ zs. Remains a b zs whole) next remains) printed
maybe_printed begin end false x xs place whole a b c remains printed = more_printed [] _ whole a b c remains printed

-- after the last item the end is left
pub left_end : (begin end : List ℕ) (place : ℕ) → left begin end place [] ≡ mark (begin ++ end) end place
left_end begin end zero = refl
left_end begin end (suc place) = refl

pub end_printed : (begin end : List ℕ) (place : ℕ) (whole : List ℕ) (a b c : Option (List ℕ)) → Remains a b (left begin end place []) whole → Appends b c (mark (begin ++ end) end place) → Appends a c whole
end_printed begin end place whole a b c remains last = remains c (subst (Appends b c) (sym (left_end begin end place)) last)

-- a list that isn't empty is printed
pub all_printed : (begin end : List ℕ) (xs : List (List ℕ)) (i : ℕ) (whole : List ℕ) (a b c : Option (List ℕ)) → 0 < length xs → length xs ≤ i
    → Remains a b (left begin end i (drop i xs)) whole → Appends b c end → Appends a c whole
all_printed begin end xs zero whole a b c some past remains last = absurd (omega (arith, some, past))
all_printed begin end xs (suc i) whole a b c some past remains last =
    end_printed begin end (suc i) whole a b c (subst (λ zs. Remains a b (left begin end (suc i) zs) whole) (drop_all (suc i) xs past) remains) last

-- the text of the item at a place
pub text_at : {X : Type 0} (text : X → List ℕ) (xs : List X) (i : ℕ) (x : X) → slice_get xs i ≡ Some x → text x ≡ slice_index_or (map text xs) i []
text_at text [] i x is = let past : i < 0 = slice_get_within [] i x is in absurd (omega (arith, past))
text_at text (y ∷ xs) zero x is = let first : Some y ≡ Some x = is in let same : x ≡ y = cc in ap text same
text_at text (y ∷ xs) (suc i) x is = text_at text xs i x is
