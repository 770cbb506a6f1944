-- Members are compared with those that were at their places, one after the other.
use Rattle.trace.proofs.Common.{◌≡◌, ℕ, zero, suc, ◌<◌, ◌+◌, Bool, true, false, not, nat_lt, nat_eq, List, [], ◌∷◌, ◌++◌, drop, get_or, if◌then◌else◌, length, map, arith, refl, sym, ap, ◌∙◌, nat_tests, slice_get_read, pointwise, slice_index_or, changed, is_at, extended}
use Rattle.std.proofs.lemmas.List.{drop_more, length-map}
use Rattle.trace.proofs.Left.{text_at}

-- the text of what is at a place
pub text_there : {X : Type 0} (text : X → List ℕ) (xs : List X) (ts : List (List ℕ)) (i : ℕ) (x : X) → ts ≡ map text xs
    → i < length ts → x ≡ get_or xs i x → slice_index_or ts i [] ≡ text x
text_there {X} text xs ts i x are lt is =
    let long : length ts ≡ length xs = ap length are ∙ length-map xs text in
    let there : i < length xs = omega (arith, lt, long) in
    ap (λ (us : List (List ℕ)). slice_index_or us i []) are
    ∙ sym (text_at text xs i x (slice_get_read xs (length xs) i x refl there is))

-- a member, unless it is as it was
abbrev pub unless : Bool → List ℕ → List (List ℕ)
unless same x = if not same then x ∷ [] else []

pub first : (was x : List ℕ) (before later : List (List ℕ))
    → changed (was ∷ before) (x ∷ later) ≡ unless (pointwise nat_eq was x) x ++ changed before later
first was x before later = by (pointwise nat_eq was x) refl where
  by : (same : Bool) → pointwise nat_eq was x ≡ same
      → changed (was ∷ before) (x ∷ later) ≡ unless (pointwise nat_eq was x) x ++ changed before later
  by true e = rw e refl
  by false e = rw e refl

step : (before : List (List ℕ)) (i : ℕ) (x : List ℕ) (later : List (List ℕ))
    → changed (drop i before) (x ∷ later) ≡ unless (is_at before i x) x ++ changed (drop (suc i) before) later
step [] zero x later = refl
step [] (suc i) x later = refl
step (was ∷ before) zero x later = first was x before later
step (was ∷ before) (suc i) x later = step before i x later

pub changed_step : (before now : List (List ℕ)) (i : ℕ) (x : List ℕ) → i < length now → slice_index_or now i [] ≡ x
    → changed (drop i before) (drop i now) ≡ unless (is_at before i x) x ++ changed (drop (i + 1) before)
    (drop (i + 1) now)
changed_step before now i x lt is =
    let sums : suc i ≡ i + 1 = omega arith in
    ap (changed _) (drop_more now i [] lt ∙ ap (λ (y : List ℕ). y ∷ drop (i + 1) now) is)
    ∙ step before i x _
    ∙ ap (λ (n : ℕ). unless (is_at before i x) x ++ changed (drop n before) (drop (i + 1) now)) sums

some_left : (xs ys : List (List ℕ)) (x : List ℕ) → xs ≡ x ∷ ys → true ≡ nat_lt 0 (length xs)
some_left xs ys x is = let long : length xs ≡ suc (length ys) = ap length is in grind (arith, nat_tests, long)

-- one that is other than it was is among them
pub some_changed : (before now : List (List ℕ)) (i : ℕ) (x : List ℕ) → i < length now → slice_index_or now i [] ≡ x
    → is_at before i x ≡ false → changed before now ≡ changed (drop i before) (drop i now)
    → true ≡ nat_lt 0 (length (changed before now))
some_changed before now i x lt is other all =
    let some : changed before now ≡ x ∷ changed (drop (i + 1) before) (drop (i + 1) now) =
    all ∙ changed_step before now i x lt is
    ∙ ap (λ (same : Bool). unless same x ++ changed (drop (i + 1) before) (drop (i + 1) now)) other in
    some_left _ _ x some

pub next_same : (before now : List (List ℕ)) (i : ℕ) (x : List ℕ) → i < length now → slice_index_or now i [] ≡ x
    → is_at before i x ≡ true → changed before now ≡ changed (drop i before) (drop i now)
    → changed before now ≡ changed (drop (i + 1) before) (drop (i + 1) now)
next_same before now i x lt is same all = all ∙ changed_step before now i x lt is
    ∙ ap (λ (t : Bool). unless t x ++ changed (drop (i + 1) before) (drop (i + 1) now)) same

-- the member at a place is added to an object, unless it is as it was
pub member_added : (before now : List (List ℕ)) (i : ℕ) (x text later whole : List ℕ) → i < length now
    → slice_index_or now i [] ≡ x → is_at before i x ≡ false → later ≡ extended text (x ∷ [])
    → extended text (changed (drop i before) (drop i now)) ≡ whole
    → extended later (changed (drop (i + 1) before) (drop (i + 1) now)) ≡ whole
member_added before now i x text later whole lt is other added all =
    let rest : List (List ℕ) = changed (drop (i + 1) before) (drop (i + 1) now) in
    ap (λ (t : List ℕ). extended t rest) added ∙ ap (λ (same : Bool). extended text (unless same x ++ rest)) (sym other)
    ∙ ap (extended text) (sym (changed_step before now i x lt is)) ∙ all

pub member_left_out : (before now : List (List ℕ)) (i : ℕ) (x text whole : List ℕ) → i < length now
    → slice_index_or now i [] ≡ x → is_at before i x ≡ true
    → extended text (changed (drop i before) (drop i now)) ≡ whole
    → extended text (changed (drop (i + 1) before) (drop (i + 1) now)) ≡ whole
member_left_out before now i x text whole lt is same all =
    ap (λ (t : Bool). extended text (unless t x ++ changed (drop (i + 1) before) (drop (i + 1) now))) (sym same)
    ∙ ap (extended text) (sym (changed_step before now i x lt is)) ∙ all
