-- The first element of a list that passes a test, found by its place and changed there.
use Rattle.std.proofs.Common.{◌≡◌, ℕ, ◌+◌, ◌<◌, ◌≤◌, Bool, true, false, cond, List, [], ◌∷◌, length, Option, Some, None, is_some, MatchOption, slice_set, slice_index_or, refl, ap, sym, ◌∙◌, arith, suc, nat_lt}
use Rattle.std.specs.List.{position_or_len, position, find, slice_get}
use Rattle.std.proofs.lemmas.List.Folds.{find_at}
use Rattle.std.proofs.lemmas.List.{get_or_default}
use Rattle.std.proofs.lemmas.Option.{slice_get_read, slice_get_past}
use Rattle.std.proofs.lemmas.Bool.{ltb-true, ltb-false}
use Rattle.host_pairs.specs.Entries.{changed_first, entry_at, is_at, new_entry}
use Rattle.host_pairs.specs.declared.entry.Entry.{Entry}

record IsPlace (n len k : ℕ) : Type 0 where
  same : n ≡ k
  within : k < len

place_some : (b : Bool) (n len k : ℕ) → nat_lt n len ≡ b → cond b (Some n) None ≡ Some k → IsPlace n len k
place_some true n len k lt e = let same : n ≡ k = cc in record { same = same; within = omega (arith, ltb-true n len lt, same) }
place_some false n len k lt e = absurd (cc)

place_none : (b : Bool) (n len : ℕ) → nat_lt n len ≡ b → cond b (Some n) None ≡ None → len ≤ n
place_none true n len lt e = absurd (cc)
place_none false n len lt e = ltb-false n len lt

set_more : {A : Type 0} (test : A → Bool) (change : A → A) (d x : A) (xs : List A)
    → (position_or_len test xs < length xs → slice_set xs (position_or_len test xs) (change (slice_index_or xs (position_or_len test xs) d)) ≡ changed_first test change xs)
    → (b : Bool) → test x ≡ b → position_or_len test (x ∷ xs) < length (x ∷ xs)
    → slice_set (x ∷ xs) (position_or_len test (x ∷ xs)) (change (slice_index_or (x ∷ xs) (position_or_len test (x ∷ xs)) d)) ≡ changed_first test change (x ∷ xs)
set_more test change d x xs rest true e lt = rw e refl
set_more {A} test change d x xs rest false e lt =
    let one : 1 + position_or_len test xs ≡ suc (position_or_len test xs) = omega arith in
    let inner : 1 + position_or_len test xs < length (x ∷ xs) = rw e at lt in
    let step : slice_set (x ∷ xs) (suc (position_or_len test xs)) (change (slice_index_or (x ∷ xs) (suc (position_or_len test xs)) d)) ≡ x ∷ changed_first test change xs =
    ap (λ (ys : List A). x ∷ ys) (rest (omega (arith, inner))) in
    rw e (ap (λ (n : ℕ). slice_set (x ∷ xs) n (change (slice_index_or (x ∷ xs) n d))) one ∙ step)

set_first : {A : Type 0} (test : A → Bool) (change : A → A) (d : A) (xs : List A) → position_or_len test xs < length xs
    → slice_set xs (position_or_len test xs) (change (slice_index_or xs (position_or_len test xs) d)) ≡ changed_first test change xs
set_first test change d [] lt = absurd (omega arith)
set_first test change d (x ∷ xs) lt = set_more test change d x xs (set_first test change d xs) (test x) refl lt

none_more : {A : Type 0} (test : A → Bool) (change : A → A) (x : A) (xs : List A) → (length xs ≤ position_or_len test xs → changed_first test change xs ≡ xs)
    → (b : Bool) → test x ≡ b → length (x ∷ xs) ≤ position_or_len test (x ∷ xs) → changed_first test change (x ∷ xs) ≡ x ∷ xs
none_more test change x xs rest true e le = absurd (let z : length (x ∷ xs) ≤ 0 = rw e at le in omega (arith, z))
none_more {A} test change x xs rest false e le =
    let z : length (x ∷ xs) ≤ 1 + position_or_len test xs = rw e at le in
    rw e (ap (λ (ys : List A). x ∷ ys) (rest (omega (arith, z))))

none_first : {A : Type 0} (test : A → Bool) (change : A → A) (xs : List A) → length xs ≤ position_or_len test xs → changed_first test change xs ≡ xs
none_first test change [] le = refl
none_first test change (x ∷ xs) le = none_more test change x xs (none_first test change xs) (test x) refl le

-- what is at the found place is what is changed
pub one_changed : {A : Type 0} (test : A → Bool) (at : ℕ) (change : A → A) (d y : A) (xs : List A) → position test xs ≡ Some at → y ≡ change (slice_index_or xs at d)
    → slice_set xs at y ≡ changed_first test change xs
one_changed {A} test at change d y xs e is =
    let p : IsPlace (position_or_len test xs) (length xs) at = place_some (nat_lt (position_or_len test xs) (length xs)) (position_or_len test xs) (length xs) at refl e in
    ap (λ (x : A). slice_set xs at x) is
    ∙ ap (λ (n : ℕ). slice_set xs n (change (slice_index_or xs n d))) (sym p.same)
    ∙ set_first test change d xs (omega (arith, p.same, p.within))

-- where nothing is found, nothing changes
pub none_changed : {A : Type 0} (test : A → Bool) (change : A → A) (xs : List A) → position test xs ≡ None → changed_first test change xs ≡ xs
none_changed test change xs e =
    none_first test change xs (place_none (nat_lt (position_or_len test xs) (length xs)) (position_or_len test xs) (length xs) refl e)

-- what is at the found place is what is found
pub one_found : {A : Type 0} (test : A → Bool) (at : ℕ) (d : A) (xs : List A) → position test xs ≡ Some at → find test xs ≡ Some (slice_index_or xs at d)
one_found {A} test at d xs e =
    let p : IsPlace (position_or_len test xs) (length xs) at = place_some (nat_lt (position_or_len test xs) (length xs)) (position_or_len test xs) (length xs) at refl e in
    find_at test xs ∙ ap (λ (n : ℕ). slice_get xs n) p.same ∙ slice_get_read xs (length xs) at (slice_index_or xs at d) refl p.within (get_or_default xs at d (slice_index_or xs at d) p.within)

pub none_found : {A : Type 0} (test : A → Bool) (xs : List A) → position test xs ≡ None → find test xs ≡ None
none_found {A} test xs e = find_at test xs ∙ slice_get_past xs (position_or_len test xs) (place_none (nat_lt (position_or_len test xs) (length xs)) (position_or_len test xs) (length xs) refl e)

-- the first that passes is what is at its place
pub found_by_place : {A : Type 0} (test : A → Bool) (xs : List A) (place : Option ℕ) → place ≡ position test xs
    → MatchOption place (find test xs ≡ None) (λ at. (d : A) → find test xs ≡ Some (slice_index_or xs at d))
found_by_place test xs None e = none_found test xs (sym e)
found_by_place test xs (Some at) e = λ d. one_found test at d xs (sym e)

-- whether something is found
pub found_some : (own foreign : ℕ) (xs : List Entry) (place : Option ℕ)
    → MatchOption place (find (is_at own foreign) xs ≡ None) (λ at. (d : Entry) → find (is_at own foreign) xs ≡ Some (slice_index_or xs at d))
    → is_some place ≡ is_some (entry_at own foreign xs)
found_some own foreign xs None e = rw e refl
found_some own foreign xs (Some at) e = rw (e (new_entry own foreign)) refl
