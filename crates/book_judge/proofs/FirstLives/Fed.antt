-- What streams and grants promise of the first lives, with one more.
use Rattle.book_judge.proofs.Common.{get_or_from_slice_get, slice_get_read, slice_get_within, IsPrefix, Name, receives, Life}
use Rattle.std.proofs.Common.{◌≡◌, ℕ, suc, ◌-◌, ◌+◌, ◌<◌, ◌≤◌, Bool, true, false, not, List, [], ◌∷◌, ◌++◌, length, take, drop, get_or, Option, Some, None, MatchBool, refl, ap, sym, subst, ◌∙◌, arith, zero}
use Rattle.std.proofs.lemmas.List.{take-append-drop, take_all, take_more}
use Rattle.book_judge.specs.Inside.Chains.{ExceedsAt, FedAt, GrantedAt, HasGranted, IsHanded, SourceAt, is_granted, IsSourced}
use Rattle.std.specs.List.{slice_get}
use Rattle.book_judge.specs.Inside.Made.{same_found}
use Rattle.book_judge.proofs.Elements.{read_at}
use Rattle.book_judge.proofs.Crossed.SameText.{same_bit-true}

-- ---- prefixes

found_same : (o p : Option Bool) → same_found o p ≡ true → (b : Bool) × (o ≡ Some b) × (p ≡ Some b)
found_same None p e = absurd (cc)
found_same (Some x) None e = absurd (cc)
found_same (Some x) (Some y) e = (x, refl, ap (λ (z : Bool). Some z) (sym (same_bit-true x y e)))

took_more : (xs : List Bool) (i : ℕ) (b : Bool) → slice_get xs i ≡ Some b → take (i + 1) xs ≡ take i xs ++ b ∷ []
took_more xs i b e =
    take_more xs i b (slice_get_within xs i b e)
    ∙ ap (λ (z : Bool). take i xs ++ z ∷ []) (get_or_from_slice_get xs i b b e)

pub prefix_more : (xs ys : List Bool) (i : ℕ) (a b : Option Bool) (r : Bool) → a ≡ slice_get xs i → b ≡ slice_get ys i
    → r ≡ same_found a b → r ≡ true
    → take i xs ≡ take i ys → take (i + 1) xs ≡ take (i + 1) ys
prefix_more xs ys i a b r e f g h same =
    let t = found_same a b (sym g ∙ h) in
    took_more xs i t.0 (sym e ∙ t.1) ∙ ap (λ (zs : List Bool). zs ++ t.0 ∷ []) same
    ∙ sym (took_more ys i t.0 (sym f ∙ t.2))

pub prefix_whole : (xs ys : List Bool) (i : ℕ) → length xs ≤ i → take i xs ≡ take i ys → IsPrefix xs ys
prefix_whole xs ys i h same =
    (drop i ys, ap (λ (zs : List Bool). zs ++ drop i ys) (sym (take_all i xs h) ∙ same) ∙ take-append-drop i ys)

-- the bit at a place of what is left
pub get_drop : (n : ℕ) (xs : List Bool) (i : ℕ) → slice_get xs (n + i) ≡ slice_get (drop n xs) i
get_drop zero xs i = let e : 0 + i ≡ i = omega arith in ap (λ (k : ℕ). slice_get xs k) e
get_drop (suc n) [] i = refl
get_drop (suc n) (x ∷ xs) i = let e : suc n + i ≡ suc (n + i) = omega arith in ap (λ (k : ℕ). slice_get (x ∷ xs) k) e ∙ get_drop n xs i

took_none : (k : ℕ) → take {A = Bool} k [] ≡ []
took_none zero = refl
took_none (suc k) = refl

pub drop_part : (from to : ℕ) (xs : List Bool) → from ≤ to → drop from (take to xs) ≡ take (to - from) (drop from xs)
drop_part zero to xs less = let e : to - 0 ≡ to = omega arith in ap (λ (k : ℕ). take k xs) (sym e)
drop_part (suc from) zero xs less = absurd (omega (arith, less))
drop_part (suc from) (suc to) [] less = sym (took_none (suc to - suc from))
drop_part (suc from) (suc to) (x ∷ xs) less = let e : suc to - suc from ≡ to - from = omega arith in drop_part from to xs (omega (arith, less)) ∙ ap (λ (k : ℕ). take k (drop from xs)) (sym e)

pub slice_whole : (from to i : ℕ) (xs ys : List Bool) → from ≤ to → to - from ≡ length ys → i ≡ length ys
    → take i (drop from xs) ≡ take i ys → drop from (take to xs) ≡ ys
slice_whole from to i xs ys less size all same =
    drop_part from to xs less ∙ ap (λ (k : ℕ). take k (drop from xs)) (size ∙ sym all) ∙ same
    ∙ take_all i ys (omega (arith, all))

-- ---- one life

pub sourced_by : (b : Bool) (a : Name) (x : Life) (names : List Name) (lives : List Life)
    → MatchBool b ((i : ℕ) × SourceAt a x names lives i) ((i : ℕ) → SourceAt a x names lives i → ⊥) → receives x ≡ true
    → (x.bits ≡ [] → ⊥)
    → MatchBool b (IsSourced a x names lives) (IsSourced a x names lives → ⊥)
sourced_by true a x names lives m r some = λ _ _. m
sourced_by false a x names lives m r some = λ is. (let t = is r some in m t.0 t.1)

pub granted_by : (b : Bool) (a : Name) (x : Life) (names : List Name) (lives : List Life)
    → MatchBool b ((i : ℕ) × ExceedsAt a x names lives i) ((i : ℕ) → ExceedsAt a x names lives i → ⊥)
    → receives x ≡ true
    → is_granted x x.messages (length x.bits) ≡ true
    → MatchBool (not b) (HasGranted a x names lives) (HasGranted a x names lives → ⊥)
granted_by true a x names lives m r e = λ has. (let t = has r in t.1 m.0 m.1)
granted_by false a x names lives m r e = λ _. (e, m)

-- ---- the life at a place

pub fed_here : (names : List Name) (lives : List Life) (handed : List (List Bool)) (n : ℕ) (a : Name) (x : Life) (h : List Bool)
    → n < length lives → (length names ≡ length lives) × (length handed ≡ length lives) → a ≡ get_or names n a
    → x ≡ get_or lives n x → h ≡ get_or handed n h
    → IsSourced a x names lives → IsHanded x h → FedAt names lives handed n
fed_here names lives handed n a x h l counts e f g sourced given = λ b y i p q r.
    (let s : slice_get names n ≡ Some a = slice_get_read names (length names) n a refl (omega (arith, l, counts.0)) e in
    let t : slice_get lives n ≡ Some x = slice_get_read lives (length lives) n x refl l f in
    let u : slice_get handed n ≡ Some h =
    slice_get_read handed (length handed) n h refl (omega (arith, l, counts.1)) g in
    let one : a ≡ b = cc in
    let two : x ≡ y = cc in
    let three : h ≡ i = cc in
    let P : Name → Life → Type 0 = λ c z. IsSourced c z names lives in
    let Q : Life → List Bool → Type 0 = λ z k. IsHanded z k in
    (subst (λ (c : Name). P c y) one (subst (λ (z : Life). P a z) two sourced), subst (λ (k : List Bool). Q y k) three (subst (λ (z : Life). Q z h) two given)))

pub unfed_here : (names : List Name) (lives : List Life) (handed : List (List Bool)) (n : ℕ) (a : Name) (x : Life) (h : List Bool)
    → n < length lives → (length names ≡ length lives) × (length handed ≡ length lives) → a ≡ get_or names n a
    → x ≡ get_or lives n x → h ≡ get_or handed n h
    → FedAt names lives handed n → IsSourced a x names lives × IsHanded x h
unfed_here names lives handed n a x h l counts e f g fed =
    fed a x h (slice_get_read names (length names) n a refl (omega (arith, l, counts.0)) e)
    (slice_get_read lives (length lives) n x refl l f)
    (slice_get_read handed (length handed) n h refl (omega (arith, l, counts.1)) g)

pub unsourced_here : (names : List Name) (lives : List Life) (handed : List (List Bool)) (n : ℕ) (a : Name) (x : Life)
    → n < length lives → (length names ≡ length lives) × (length handed ≡ length lives) → a ≡ get_or names n a
    → x ≡ get_or lives n x
    → FedAt names lives handed n → IsSourced a x names lives
unsourced_here names lives handed n a x l counts e f fed =
    let h = read_at handed n (omega (arith, l, counts.1)) in
    (fed a x h.0 (slice_get_read names (length names) n a refl (omega (arith, l, counts.0)) e) (slice_get_read lives (length lives) n x refl l f) h.1).0

pub granted_here : (names : List Name) (lives : List Life) (n : ℕ) (a : Name) (x : Life)
    → n < length lives → length names ≡ length lives → a ≡ get_or names n a → x ≡ get_or lives n x
    → HasGranted a x names lives → GrantedAt names lives n
granted_here names lives n a x l counts e f has = λ b y p q.
    (let s : slice_get names n ≡ Some a = slice_get_read names (length names) n a refl (omega (arith, l, counts)) e in
    let t : slice_get lives n ≡ Some x = slice_get_read lives (length lives) n x refl l f in
    let one : a ≡ b = cc in
    let two : x ≡ y = cc in
    let P : Name → Life → Type 0 = λ c z. HasGranted c z names lives in
    subst (λ (c : Name). P c y) one (subst (λ (z : Life). P a z) two has))

pub excess_here : (names : List Name) (lives : List Life) (n : ℕ) (a : Name) (x : Life)
    → n < length lives → length names ≡ length lives → a ≡ get_or names n a → x ≡ get_or lives n x
    → GrantedAt names lives n → HasGranted a x names lives
excess_here names lives n a x l counts e f granted =
    granted a x (slice_get_read names (length names) n a refl (omega (arith, l, counts)) e)
    (slice_get_read lives (length lives) n x refl l f)
