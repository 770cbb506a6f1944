-- A vector passes its test, and is lowered to another.
use Rattle.std.proofs.Common.{◌≡◌, ℕ, ◌+◌, ◌<◌, ◌≤◌, ◌&&◌, Bool, true, false, List, length, get_or, slice_set, min, leb, eqb, refl, ap, sym, subst, ◌∙◌, arith}
use Rattle.std.proofs.lemmas.List.{get_or-set_other}
use Rattle.std.proofs.lemmas.List.Edits.{fill_by_more}
use Rattle.std.proofs.lemmas.List.Sums.{AllPass-from_list_all, list_all-from_AllPass}
use Rattle.std.proofs.lemmas.Bool.{and_from, eq-eqb, eqb-true, le-leb, leb-true, and_parts}
use Rattle.std.specs.List.{list_all}
use Rattle.interface.specs.Host.{most_imps}
use Rattle.routing.specs.Vector.{IsVector, is_vector, infinite}

pub is_vector-true : (distances : List ℕ) → IsVector distances → is_vector distances ≡ true
is_vector-true distances v =
    and_from _ _ (eq-eqb (length distances) most_imps v.one_each) (list_all-from_AllPass (λ d. leb d infinite) distances (λ k d lt. le-leb (get_or distances k d) infinite (v.in_range k d lt)))

-- and what passes the test is one
pub vector_tested : (distances : List ℕ) → is_vector distances ≡ true → IsVector distances
vector_tested distances passes =
    let both : (eqb (length distances) most_imps ≡ true) × (list_all (λ d. leb d infinite) distances ≡ true) = and_parts _ _ passes in
    record {
      one_each = eqb-true (length distances) most_imps both.0;
      in_range = λ k d lt. leb-true (get_or distances k d) infinite (AllPass-from_list_all (λ d. leb d infinite) distances both.1 k d lt);
    }

-- ---- distances that are lowered to others, one place after the other

pub lowered_more : (old told now : List ℕ) (i : ℕ) → i < length now → ((k : ℕ) → k < i → get_or now k 0 ≡ min (get_or old k 0) (get_or told k 0)) → ((k : ℕ) → i ≤ k → get_or now k 0 ≡ get_or old k 0)
    → (k : ℕ) → k < i + 1 → get_or (slice_set now i (min (get_or now i 0) (get_or told i 0))) k 0 ≡ min (get_or old k 0) (get_or told k 0)
lowered_more old told now i there done left k below =
    let same : min (get_or now i 0) (get_or told i 0) ≡ min (get_or old i 0) (get_or told i 0) = ap (λ (v : ℕ). min v (get_or told i 0)) (left i (omega arith)) in
    subst (λ (v : ℕ). get_or (slice_set now i v) k 0 ≡ min (get_or old k 0) (get_or told k 0)) (sym same)
    (fill_by_more (λ (k : ℕ). min (get_or old k 0) (get_or told k 0)) now i 0 there done k below)

pub left_more : (old now : List ℕ) (i v : ℕ) → ((k : ℕ) → i ≤ k → get_or now k 0 ≡ get_or old k 0) → (k : ℕ) → i + 1 ≤ k → get_or (slice_set now i v) k 0 ≡ get_or old k 0
left_more old now i v left k from = get_or-set_other now i k v 0 (λ same. omega (arith, from, same)) ∙ left k (omega (arith, from))
