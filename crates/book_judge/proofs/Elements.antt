-- The elements of a list by their places.
use Rattle.book_judge.proofs.Common.{◌≡◌, ℕ, zero, suc, ◌+◌, ◌<◌, ◌≤◌, Bool, true, false, not, ◌&&◌, List, [], ◌∷◌, ◌++◌, length, take, get_or, Some, MatchBool, refl, ap, sym, subst, ◌∙◌, inl, inr, arith, cases_lt, get_or_from_slice_get, slice_get_within, AreTwo, Life, contains_none}
use Rattle.std.specs.List.{Contains, slice_get}
use Rattle.std.proofs.lemmas.List.{append_assoc}
use Rattle.book_judge.proofs.Identities.Named.{contains_cases}

-- ---- tests

pub not_is : (a : Bool) → (a ≡ true → ⊥) → not a ≡ true
not_is true f = absurd (f refl)
not_is false f = refl

pub not_true : (a : Bool) → not a ≡ true → a ≡ true → ⊥
not_true true h e = absurd (cc)
not_true false h e = absurd (cc)

pub false_not : (a : Bool) → a ≡ false → a ≡ true → ⊥
false_not true h e = absurd (cc)
false_not false h e = absurd (cc)

pub when_true : (P Q : Type 0) (b : Bool) → MatchBool b P Q → b ≡ true → P
when_true P Q true m e = m
when_true P Q false m e = absurd (cc)

pub when_false : (P Q : Type 0) (b : Bool) → MatchBool b P Q → b ≡ false → Q
when_false P Q true m e = absurd (cc)
when_false P Q false m e = m

-- ---- places

pub get_took : {X : Type 0} (n : ℕ) (xs : List X) (i : ℕ) (x : X) → slice_get (take n xs) i ≡ Some x → (i < n) × (slice_get xs i ≡ Some x)
get_took zero xs i x e = absurd (cc)
get_took (suc n) [] i x e = absurd (cc)
get_took (suc n) (y ∷ xs) zero x e = (omega arith, e)
get_took (suc n) (y ∷ xs) (suc i) x e = (let t = get_took n xs i x e in (omega (arith, t.0), t.1))

pub get_take : {X : Type 0} (n : ℕ) (xs : List X) (i : ℕ) (x : X) → i < n → slice_get xs i ≡ Some x → slice_get (take n xs) i ≡ Some x
get_take zero xs i x h e = absurd (omega (arith, h))
get_take (suc n) [] i x h e = absurd (cc)
get_take (suc n) (y ∷ xs) zero x h e = e
get_take (suc n) (y ∷ xs) (suc i) x h e = get_take n xs i x (omega (arith, h)) e

pub read_at : {X : Type 0} (xs : List X) (i : ℕ) → i < length xs → (x : X) × (slice_get xs i ≡ Some x) × (x ≡ get_or xs i x)
read_at [] i h = absurd (omega (arith, h))
read_at (z ∷ xs) zero h = (z, refl, refl)
read_at (z ∷ xs) (suc i) h = read_at xs i (omega (arith, h))

pub place_contains : {X : Type 0} (xs : List X) (i : ℕ) (x : X) → slice_get xs i ≡ Some x → Contains xs x
place_contains xs i x e = (i, slice_get_within xs i x e, get_or_from_slice_get xs i x x e)

pub contains_place : {X : Type 0} (xs : List X) (x : X) → Contains xs x → (i : ℕ) × (slice_get xs i ≡ Some x)
contains_place [] x c = absurd (contains_none x c)
contains_place {X} (y ∷ xs) x c = elim (contains_cases y xs x c) [
  | inl e ↦ (0, ap (λ (z : X). Some z) e)
  | inr d ↦ (let t = contains_place xs x d in (suc t.0, t.1))
]

-- ---- two

seam : {X : Type 0} (front rest : List X) (x : X) → slice_get (front ++ x ∷ rest) (length front) ≡ Some x
seam [] rest x = refl
seam (y ∷ front) rest x = seam front rest x

past : {X : Type 0} (front xs : List X) (i n : ℕ) (x : X) → n ≡ length front + i → slice_get xs i ≡ Some x → slice_get (front ++ xs) n ≡ Some x
past {X} [] xs i n x h e = (let s : n ≡ i = omega (arith, h) in ap (λ (k : ℕ). slice_get xs k) s ∙ e)
past (y ∷ front) xs i zero x h e = absurd (omega (arith, h))
past (y ∷ front) xs i (suc n) x h e = past front xs i n x (omega (arith, h)) e

-- two lives of a list by their places
pub record AreAt (lives : List Life) (x y : Life) : Type 0 where
  pub first : ℕ
  pub second : ℕ
  pub before : first < second
  pub one : slice_get lives first ≡ Some x
  pub other : slice_get lives second ≡ Some y

pub two_places : (lives : List Life) (x y : Life) → AreTwo lives x y → AreAt lives x y
two_places lives x y (front, between, rest, e) =
    let P : ℕ → Life → List Life → Type 0 = λ n z zs. slice_get zs n ≡ Some z in
    let parts : lives ≡ front ++ (x ∷ (between ++ y ∷ rest)) = e ∙ append_assoc front (x ∷ between) (y ∷ rest) in
    record {
      first = length front;
      second = length front + suc (length between);
      before = omega arith;
      one = subst (P (length front) x) (sym parts) (seam front (between ++ y ∷ rest) x);
      other = subst (P (length front + suc (length between)) y) (sym parts)
          (past front (x ∷ (between ++ y ∷ rest)) (suc (length between)) (length front + suc (length between)) y refl (seam between rest y));
    }

split_at : {X : Type 0} (xs : List X) (i : ℕ) (x : X) → slice_get xs i ≡ Some x → (between : List X) × (rest : List X) × (xs ≡ between ++ x ∷ rest)
split_at [] i x e = absurd (cc)
split_at {X} (y ∷ xs) zero x e = ([], xs, (let s : y ≡ x = cc in ap (λ (z : X). z ∷ xs) s))
split_at {X} (y ∷ xs) (suc i) x e = (let t = split_at xs i x e in (y ∷ t.0, t.1, ap (λ (zs : List X). y ∷ zs) t.2))

pub places_two : (lives : List Life) (i j : ℕ) (x y : Life) → i < j → slice_get lives i ≡ Some x → slice_get lives j ≡ Some y → AreTwo lives x y
places_two [] i j x y h e f = absurd (cc)
places_two (z ∷ lives) zero zero x y h e f = absurd (omega (arith, h))
places_two (z ∷ lives) zero (suc j) x y h e f =
    let t = split_at lives j y f in
    let s : z ≡ x = cc in
    ([], t.0, t.1, ap (λ (w : Life). w ∷ lives) s ∙ ap (λ (zs : List Life). x ∷ zs) t.2)
places_two (z ∷ lives) (suc i) zero x y h e f = absurd (omega (arith, h))
places_two (z ∷ lives) (suc i) (suc j) x y h e f =
    (let t = places_two lives i j x y (omega (arith, h)) e f in (z ∷ t.0, t.1, t.2, ap (λ (zs : List Life). z ∷ zs) t.3))

-- what holds of the first places, and of one more
pub first_more : (P : ℕ → Type 0) (n : ℕ) → ((i : ℕ) → i < n → P i) → P n → (i : ℕ) → i < n + 1 → P i
first_more P n all here i l = elim (cases_lt i n) [
  | inl b ↦ all i b
  | inr ge ↦ (let e : n ≡ i = omega (arith, l, ge) in subst P e here)
]

pub first_all : (P : ℕ → Type 0) (n m : ℕ) → m ≤ n → ((i : ℕ) → i < n → P i) → (i : ℕ) → i < m → P i
first_all P n m le all i l = all i (omega (arith, l, le))
