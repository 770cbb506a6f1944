-- Tests of each and of some element of a list, and two of its elements.
use Rattle.net_sim.proofs.Common.{◌≡◌, ℕ, zero, suc, ◌<◌, ◌≤◌, Bool, true, false, ◌||◌, not, List, [], ◌∷◌, ◌++◌, length, take, refl, ap, sym, subst, arith, inl, inr, ◌⊎◌, Some, list_all, list_any, Contains, and_true}
use Rattle.std.proofs.lemmas.Bool.{and_from, or_cases, or_left, or_right}
use Rattle.std.specs.List.{slice_get, slice_index_or}

-- ---- chains of tests

-- a test that is asked only where another holds
pub when_true : (a b : Bool) → (not a || b) ≡ true → a ≡ true → b ≡ true
when_true true b h e = h
when_true false b h e = absurd (cc)

pub when_is : (a b : Bool) → (a ≡ true → b ≡ true) → (not a || b) ≡ true
when_is true b f = f refl
when_is false b f = refl

pub not_true : (a : Bool) → not a ≡ true → a ≡ true → ⊥
not_true true h e = absurd (cc)
not_true false h e = absurd (cc)

pub not_is : (a : Bool) → (a ≡ true → ⊥) → not a ≡ true
not_is true f = absurd (f refl)
not_is false f = refl

pub false_not : (a : Bool) → a ≡ false → a ≡ true → ⊥
false_not true h e = absurd (cc)
false_not false h e = absurd (cc)

-- none of three
pub none_of : (a b c : Bool) → not (a || b || c) ≡ true → (a ≡ true → ⊥) × (b ≡ true → ⊥) × (c ≡ true → ⊥)
none_of false false false h = (false_not false refl, false_not false refl, false_not false refl)
none_of true b c h = absurd (cc)
none_of false true c h = absurd (cc)
none_of false false true h = absurd (cc)

-- ---- elements

pub contains_head : {X : Type 0} (x : X) (xs : List X) → Contains (x ∷ xs) x
contains_head x xs = (0, omega arith, refl)

pub contains_tail : {X : Type 0} (x : X) (xs : List X) (y : X) → Contains xs y → Contains (x ∷ xs) y
contains_tail x xs y (k, h, e) = (suc k, omega arith, e)

cases_at : {X : Type 0} (y : X) (xs : List X) (x : X) (k : ℕ) → k < length (y ∷ xs) → slice_index_or (y ∷ xs) k x ≡ x → (y ≡ x) ⊎ Contains xs x
cases_at y xs x zero h e = inl e
cases_at y xs x (suc k) h e = inr (k, omega arith, e)

pub contains_cases : {X : Type 0} (y : X) (xs : List X) (x : X) → Contains (y ∷ xs) x → (y ≡ x) ⊎ Contains xs x
contains_cases y xs x (k, h, e) = cases_at y xs x k h e

pub contains_none : {X : Type 0} (x : X) → Contains [] x → ⊥
contains_none x (k, h, e) = omega arith

pub contains_split : {X : Type 0} (xs : List X) (y : X) → Contains xs y → (between : List X) × (rest : List X) × (xs ≡ between ++ y ∷ rest)
contains_split [] y c = absurd (contains_none y c)
contains_split {X} (x ∷ xs) y c = elim (contains_cases x xs y c) [
  | inl e ↦ ([], xs, ap (λ (z : X). z ∷ xs) e)
  | inr d ↦ (let s = contains_split xs y d in (x ∷ s.0, s.1, ap (λ (zs : List X). x ∷ zs) s.2))
]

pub all_at : {X : Type 0} (test : X → Bool) (xs : List X) → list_all test xs ≡ true → (x : X) → Contains xs x → test x ≡ true
all_at test [] h x c = absurd (contains_none x c)
all_at {X} test (y ∷ xs) h x c =
    let t = and_true (test y) (list_all test xs) h in
    elim (contains_cases y xs x c) [
      | inl e ↦ subst (λ (z : X). test z ≡ true) e t.0
      | inr d ↦ all_at test xs t.1 x d
    ]

pub all_from : {X : Type 0} (test : X → Bool) (xs : List X) → ((x : X) → Contains xs x → test x ≡ true) → list_all test xs ≡ true
all_from test [] f = refl
all_from test (y ∷ xs) f = and_from (test y) (list_all test xs) (f y (contains_head y xs)) (all_from test xs (λ x c. f x (contains_tail y xs x c)))

pub any_at : {X : Type 0} (test : X → Bool) (xs : List X) → list_any test xs ≡ true → (x : X) × Contains xs x × (test x ≡ true)
any_at test [] h = absurd (cc)
any_at test (y ∷ xs) h = elim (or_cases (test y) (list_any test xs) h) [
  | inl e ↦ (y, contains_head y xs, e)
  | inr r ↦ (let t = any_at test xs r in (t.0, contains_tail y xs t.0 t.1, t.2))
]

pub any_from : {X : Type 0} (test : X → Bool) (xs : List X) (x : X) → Contains xs x → test x ≡ true → list_any test xs ≡ true
any_from test [] x c e = absurd (contains_none x c)
any_from {X} test (y ∷ xs) x c e = elim (contains_cases y xs x c) [
  | inl s ↦ or_left (test y) (list_any test xs) (subst (λ (z : X). test z ≡ true) (sym s) e)
  | inr d ↦ or_right (test y) (list_any test xs) (any_from test xs x d e)
]

-- ---- loops

pub all_take : {X : Type 0} (test : X → Bool) (n : ℕ) (xs : List X) → list_all test xs ≡ true → list_all test (take n xs) ≡ true
all_take test zero xs h = refl
all_take test (suc n) [] h = refl
all_take test (suc n) (x ∷ xs) h = let t = and_true (test x) (list_all test xs) h in and_from (test x) (list_all test (take n xs)) t.0 (all_take test n xs t.1)

pub all_fewer : {X : Type 0} (test : X → Bool) (m n : ℕ) (xs : List X) → m ≤ n → list_all test (take n xs) ≡ true → list_all test (take m xs) ≡ true
all_fewer test zero n xs le h = refl
all_fewer test (suc m) zero xs le h = absurd (omega arith)
all_fewer test (suc m) (suc n) [] le h = refl
all_fewer test (suc m) (suc n) (x ∷ xs) le h =
    let t = and_true (test x) (list_all test (take n xs)) h in and_from (test x) (list_all test (take m xs)) t.0 (all_fewer test m n xs (omega arith) t.1)

pub contains_take : {X : Type 0} (n : ℕ) (xs : List X) (x : X) → Contains (take n xs) x → Contains xs x
contains_take zero xs x c = absurd (contains_none x c)
contains_take (suc n) [] x c = absurd (contains_none x c)
contains_take {X} (suc n) (y ∷ xs) x c = elim (contains_cases y (take n xs) x c) [
  | inl e ↦ subst (λ (z : X). Contains (z ∷ xs) x) (sym e) (contains_head x xs)
  | inr d ↦ contains_tail y xs x (contains_take n xs x d)
]

pub contains_got : {X : Type 0} (xs : List X) (i : ℕ) (x : X) → slice_get xs i ≡ Some x → Contains xs x
contains_got [] i x e = absurd (cc)
contains_got (y ∷ xs) zero x e = (0, omega arith, (let same : y ≡ x = cc in same))
contains_got (y ∷ xs) (suc i) x e = contains_tail y xs x (contains_got xs i x e)
