-- A list without the one element that passes a test, which is looked for from the end.
use Rattle.std.proofs.Common.{◌≡◌, ℕ, zero, suc, ◌≤◌, Bool, true, false, not, List, [], ◌∷◌, length, filter, Option, Some, None, OnSome, refl, ap, sym, subst, arith}
use Rattle.std.specs.List.{list_any, slice_get, remove}
use Rattle.interface.proofs.lemmas.{or_false}

some_same : {A : Type 0} {x y : A} → Some x ≡ Some y → x ≡ y
some_same e = cc

-- where no element passes
none_count : {A : Type 0} (test : A → Bool) (xs : List A) → list_any test xs ≡ false → length (filter test xs) ≡ 0
none_count test [] e = refl
none_count test (x ∷ xs) e = let t = or_false (test x) (list_any test xs) e in rw (t.0) (none_count test xs t.1)

none_goes_more : {A : Type 0} (test : A → Bool) (x : A) (xs : List A) → (length (filter test xs) ≡ 0 → filter (λ y. not (test y)) xs ≡ xs)
    → (b : Bool) → test x ≡ b → length (filter test (x ∷ xs)) ≡ 0 → filter (λ y. not (test y)) (x ∷ xs) ≡ x ∷ xs
none_goes_more test x xs others true e n = absurd (let z : length (x ∷ filter test xs) ≡ 0 = rw e at n in omega (arith, z))
none_goes_more {A} test x xs others false e n = rw e (ap (λ (ys : List A). x ∷ ys) (others (rw e at n)))

none_goes : {A : Type 0} (test : A → Bool) (xs : List A) → length (filter test xs) ≡ 0 → filter (λ y. not (test y)) xs ≡ xs
none_goes test [] n = refl
none_goes test (x ∷ xs) n = none_goes_more test x xs (none_goes test xs) (test x) refl n

some_count : {A : Type 0} (test : A → Bool) (xs : List A) (i : ℕ) (y : A) → slice_get xs i ≡ Some y → test y ≡ true → 1 ≤ length (filter test xs)
some_count test [] i y at e = absurd (cc)
some_count {A} test (x ∷ xs) zero y at e =
    let here : test x ≡ true = (let P : A → Type 0 = λ z. test z ≡ true in subst P (sym (some_same at)) e) in rw here (omega arith)
some_count {A} test (x ∷ xs) (suc i) y at e = by (test x) refl (some_count test xs i y at e) where
  by : (b : Bool) → test x ≡ b → 1 ≤ length (filter test xs) → 1 ≤ length (filter test (x ∷ xs))
  by true t more = rw t (omega arith)
  by false t more = rw t more

-- the list without its one element that passes, by its place
pub remove_only : {A : Type 0} (test : A → Bool) (xs : List A) (i : ℕ) (y : A) → slice_get xs i ≡ Some y → test y ≡ true → length (filter test xs) ≡ 1
    → remove xs i ≡ filter (λ x. not (test x)) xs
remove_only test [] i y at e one = absurd (cc)
remove_only {A} test (x ∷ xs) zero y at e one =
    let here : test x ≡ true = (let P : A → Type 0 = λ z. test z ≡ true in subst P (sym (some_same at)) e) in
    let all : length (x ∷ filter test xs) ≡ 1 = rw here at one in
    rw here (sym (none_goes test xs (omega (arith, all))))
remove_only {A} test (x ∷ xs) (suc i) y at e one = by (test x) refl (remove_only test xs i y at e) where
  by : (b : Bool) → test x ≡ b → (length (filter test xs) ≡ 1 → remove xs i ≡ filter (λ z. not (test z)) xs) → remove (x ∷ xs) (suc i) ≡ filter (λ z. not (test z)) (x ∷ xs)
  by true t others =
      let all : length (x ∷ filter test xs) ≡ 1 = rw t at one in
      absurd (omega (arith, all, some_count test xs i y at e))
  by false t others = rw t (ap (λ (zs : List A). x ∷ zs) (others (rw t at one)))

pub on_some : {T : Type 0} {P : Type 0} (r : Option T) (x : T) → r ≡ Some x → OnSome r P → P
on_some (Some y) x e p = p
on_some None x e p = absurd (cc)

-- it can't be that one element passes and that none does
pub never_none : {A : Type 0} (test : A → Bool) (xs : List A) → length (filter test xs) ≡ 1 → list_any test xs ≡ false → ⊥
never_none test xs one none = let n = none_count test xs none in omega (arith, one, n)
