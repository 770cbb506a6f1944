-- The map that a list of places by key makes.
use Rattle.book_judge.proofs.Common.{◌≡◌, ℕ, ◌+◌, Bool, true, false, List, [], ◌∷◌, ◌⊎◌, inl, inr, Option, Some, refl, ap, sym, subst, ◌∙◌, cond, arith, eq_by_cmp, nat_cmp, is_eq, get-insert, FinMap, find, from_entries, get, insert, same_map, get-from_entries, Ordering, Less, Equal, Greater, lookup, is_at}
use Rattle.std.specs.Cmp.{eq_by_cmp_equiv, nat_cmp_total}
use Rattle.book_judge.specs.Inside.Partners.{HasPlace}
use Rattle.std.proofs.lemmas.Map.Lookups.{exact_unsigned}
use Rattle.book_judge.proofs.Ends.Keys.{is_equal as order_equal}

-- what a list of entries has at a key
abbrev pub place_in : List (ℕ × ℕ) → ℕ → Option ℕ
place_in es k = lookup (is_at (nat_cmp k)) es

find_place : (es : List (ℕ × ℕ)) (k : ℕ) → find nat_cmp k es ≡ place_in es k
find_place [] k = refl
find_place (e ∷ es) k = ap (cond (is_at (nat_cmp k) e.0) (Some e.1)) (find_place es k)

pub get_place : (es : List (ℕ × ℕ)) (k : ℕ) → get (from_entries {R = nat_cmp} es) k ≡ place_in es k
get_place es k = get-from_entries nat_cmp_total es k ∙ find_place es k

-- entries that differ at one key make maps that differ there
pub place_set : (es ds : List (ℕ × ℕ)) (k v : ℕ)
    → ((q : ℕ) → place_in ds q ≡ cond (is_at (nat_cmp k) q) (Some v) (place_in es q))
    → from_entries {R = nat_cmp} ds ≡ insert (from_entries es) k v
place_set es ds k v h = same_map nat_cmp_total exact_unsigned _ _ (λ q.
    get_place ds q ∙ h q ∙ ap (λ b. cond b (Some v) (place_in es q)) ((eq_by_cmp_equiv nat_cmp_total).symm k q)
    ∙ sym (get-insert nat_cmp_total (from_entries es) k v q ∙ ap (cond (eq_by_cmp nat_cmp q k) (Some v)) (get_place es q)))

-- ---- one place more

is_equal : (q k : ℕ) → eq_by_cmp nat_cmp q k ≡ true → nat_cmp q k ≡ Equal
is_equal q k e = order_equal (nat_cmp q k) e

pub set_here : (m : FinMap nat_cmp ℕ) (k v q : ℕ) → q ≡ k → get (insert m k v) q ≡ Some v
set_here m k v q e =
    let P : ℕ → Type 0 = λ z. eq_by_cmp nat_cmp q z ≡ true in
    let same : eq_by_cmp nat_cmp q k ≡ true = subst P e ((eq_by_cmp_equiv nat_cmp_total).refl q) in
    get-insert nat_cmp_total m k v q ∙ ap (λ (b : Bool). cond b (Some v) (get m q)) same

-- a key is the one that was set, with its place, or has the place that it had
pub set_cases : (m : FinMap nat_cmp ℕ) (k v q : ℕ)
    → ((q ≡ k) × (get (insert m k v) q ≡ Some v)) ⊎ ((q ≡ k → ⊥) × (get (insert m k v) q ≡ get m q))
set_cases m k v q = by (eq_by_cmp nat_cmp q k) refl where
  by : (b : Bool) → eq_by_cmp nat_cmp q k ≡ b → ((q ≡ k) × (get (insert m k v) q ≡ Some v)) ⊎ ((q ≡ k → ⊥) × (get (insert m k v) q ≡ get m q))
  by true e = (let same : q ≡ k = exact_unsigned q k (is_equal q k e) in inl (same, set_here m k v q same))
  by false e = inr (
    (λ s. (let P : ℕ → Type 0 = λ z. eq_by_cmp nat_cmp q z ≡ true in
        let t : eq_by_cmp nat_cmp q k ≡ true = subst P s ((eq_by_cmp_equiv nat_cmp_total).refl q) in cc)),
    get-insert nat_cmp_total m k v q ∙ ap (λ (b : Bool). cond b (Some v) (get m q)) e,
  )

-- the places of the first keys, with one more
pub has_more : (m : FinMap nat_cmp ℕ) (n k q : ℕ) → (q ≡ k) ⊎ HasPlace n m q → HasPlace (n + 1) (insert m k n) q
has_more m n k q (inl e) = (n, set_here m k n q e, omega arith)
has_more m n k q (inr h) = elim (set_cases m k n q) [
  | inl s ↦ (n, s.1, omega arith)
  | inr s ↦ (h.0, s.1 ∙ h.1, omega (arith, h.2))
]
