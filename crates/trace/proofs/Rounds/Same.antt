-- Members and logs that are as they were.
use Rattle.trace.proofs.Common.{◌≡◌, ◌⊎◌, inl, inr, ℕ, suc, ◌+◌, ◌<◌, Bool, true, false, nat_lt, not, List, [], ◌∷◌, ◌++◌, length, map, arith, refl, sym, ap, ap₂, ◌∙◌, false≢true, lt-ltb, bytes_decides, changed}
use Rattle.std.proofs.lemmas.List.{length-append}
use Rattle.std.specs.Bool.{OnFalse, OnTrue}
use Rattle.std.specs.List.{AllZip}
use Rattle.trace.proofs.Changes.Changed.{none_changed}
use Rattle.trace.proofs.Changes.Changing.{first, unless}

none_here : (same : Bool) (n : List ℕ) (more : List (List ℕ)) → unless same n ++ more ≡ [] → (same ≡ true) × (more ≡ [])
none_here true n more none = (refl, none)
none_here false n more none = absurd (let long : suc (length more) ≡ 0 = ap length none in omega (arith, long))

-- where none has changed, in either order, all are the same
pub both_same : (one other : List (List ℕ)) → changed other one ≡ [] → changed one other ≡ [] → one ≡ other
both_same [] [] h k = refl
both_same [] (m ∷ other) h k = absurd
    (let long : suc (length (changed [] other)) ≡ 0 = ap length k in omega (arith, long))
both_same (n ∷ one) [] h k = absurd (let long : suc (length (changed [] one)) ≡ 0 = ap length h in omega (arith, long))
both_same (n ∷ one) (m ∷ other) h k =
    let here = none_here _ n _ (sym (first m n other one) ∙ h) in
    let there = none_here _ m _ (sym (first n m one other) ∙ k) in
    ap (λ (x : List ℕ). x ∷ one) (sym ((bytes_decides m n).0 here.0))
    ∙ ap (λ (xs : List (List ℕ)). m ∷ xs) (both_same one other here.1 there.1)

-- how the code sees it
none_told : (xs : List (List ℕ)) → nat_lt 0 (length xs) ≡ false → xs ≡ []
none_told [] none = refl
none_told (x ∷ xs) none = let some : 0 < length (x ∷ xs) =
    omega arith in absurd (false≢true (sym none ∙ lt-ltb 0 (length (x ∷ xs)) some))

pub same_told : (one other : List (List ℕ)) → nat_lt 0 (length (changed other one)) ≡ false
    → nat_lt 0 (length (changed one other)) ≡ false → one ≡ other
same_told one other h k = both_same one other (none_told _ h) (none_told _ k)

pub not_same : (one other : List (List ℕ)) → nat_lt 0 (length (changed other one)) ≡ true → one ≡ other → ⊥
not_same one other some same =
    let none : nat_lt 0 (length (changed other one)) ≡ false =
    ap (λ (xs : List (List ℕ)). nat_lt 0 (length (changed xs one))) (sym same)
    ∙ ap (λ (xs : List (List ℕ)). nat_lt 0 (length xs)) (none_changed one) in
    false≢true (sym none ∙ some)

-- the second of the code's two answers
pub if_same : (some : Bool) (one other : List (List ℕ)) → nat_lt 0 (length (changed other one)) ≡ false
    → some ≡ nat_lt 0 (length (changed one other)) → OnTrue (not some) (one ≡ other)
if_same true one other none is = tt
if_same false one other none is = same_told one other none (sym is)

pub if_apart : (some : Bool) (one other : List (List ℕ)) → some ≡ nat_lt 0 (length (changed one other))
    → OnFalse (not some) (one ≡ other → ⊥)
if_apart true one other is = λ same. not_same other one (sym is) (sym same)
if_apart false one other is = tt

-- they are the same, or are not
pub same_or_not : (one other : List (List ℕ)) → (one ≡ other) ⊎ (one ≡ other → ⊥)
same_or_not one other = by (nat_lt 0 (length (changed other one)))
    (nat_lt 0 (length (changed one other))) refl refl where
      by : (a b : Bool) → nat_lt 0 (length (changed other one)) ≡ a → nat_lt 0 (length (changed one other)) ≡ b
          → (one ≡ other) ⊎ (one ≡ other → ⊥)
      by true b h k = inr (not_same one other h)
      by false true h k = inr (λ same. not_same other one k (sym same))
      by false false h k = inl (same_told one other h k)

-- ---- a log

-- a log that grew, and is as long as before, is as before
pub as_long : {X : Type 0} (more old new : List X) → new ≡ more ++ old → length new ≡ length old → new ≡ old
as_long [] old new grown long = grown
as_long (x ∷ more) old new grown long =
    let sum : length (more ++ old) ≡ length more + length old = length-append more old in
    let here : length new ≡ suc (length (more ++ old)) = ap length grown in
    absurd (omega (arith, sum, here, long))

-- and it is, or is not
pub grew_or_not : {X : Type 0} (more old new : List X) → new ≡ more ++ old → (new ≡ old) ⊎ (new ≡ old → ⊥)
grew_or_not [] old new grown = inl grown
grew_or_not (x ∷ more) old new grown =
    inr (λ same. by (ap length same) (ap length grown) (length-append more old)) where
      by : length new ≡ length old → length new ≡ suc (length (more ++ old))
          → length (more ++ old) ≡ length more + length old → ⊥
      by same here sum = omega (arith, same, here, sum)

-- ---- a copy

-- lists that are alike place by place, seen through a function that takes such items for the same
pub alike : {X Y : Type 0} (f : X → Y) (R : X → X → Type 0) (xs ys : List X) → ((x y : X) → R x y → f y ≡ f x)
    → AllZip R xs ys → map f ys ≡ map f xs
alike f R [] [] each h = refl
alike f R [] (y ∷ ys) each h = absurd h
alike f R (x ∷ xs) [] each h = absurd h
alike f R (x ∷ xs) (y ∷ ys) each h = ap₂ (λ z zs. z ∷ zs) (each x y h.0) (alike f R xs ys each h.1)
