-- Changes of lives at places, one after the other.
use Rattle.net_sim.proofs.Common.{◌≡◌, ℕ, ◌+◌, ◌<◌, ◌≤◌, Bool, if◌then◌else◌, zero, suc, List, [], ◌∷◌, ◌++◌, length, drop, map, slice_set, refl, ap, sym, ◌∙◌, arith, drop_more, Life, changed_when}
use Rattle.std.proofs.Common.{slice_index_or}
pub use Rattle.net_sim.specs.Inside.Places.{changed_at, changed_here}

-- ---- a change at places, one after the other

abbrev pub where_here : (Life → Bool) → (Life → Life) → Life → Life
where_here test change x = changed_when (test x) change x

pub set_here : (f : Life → Life) (at : ℕ) (xs : List Life) (d y : Life) → y ≡ f (slice_index_or xs at d) → slice_set xs at y ≡ changed_here f at xs
set_here f at [] d y is = refl
set_here f zero (x ∷ xs) d y is = ap (λ (z : Life). z ∷ xs) is
set_here f (suc at) (x ∷ xs) d y is = ap (λ (zs : List Life). x ∷ zs) (set_here f at xs d y is)

pub shifted : (f : Life → Life) (ats : List ℕ) (x : Life) (xs : List Life) → changed_at f (map suc ats) (x ∷ xs) ≡ x ∷ changed_at f ats xs
shifted f [] x xs = refl
shifted f (at ∷ ats) x xs = shifted f ats x (changed_here f at xs)

-- ---- one place more

pub nothing_left : (ats : List ℕ) (k : ℕ) → length ats ≤ k → drop k ats ≡ []
nothing_left [] zero le = refl
nothing_left [] (suc k) le = refl
nothing_left (at ∷ ats) zero le = absurd (omega (arith, le))
nothing_left (at ∷ ats) (suc k) le = nothing_left ats k (omega (arith, le))

pub next_changed : (f : Life → Life) (ats : List ℕ) (k : ℕ) (ys zs : List Life) (d y : Life) → k < length ats → y ≡ f (slice_index_or ys (slice_index_or ats k 0) d)
    → changed_at f (drop k ats) ys ≡ zs → changed_at f (drop (k + 1) ats) (slice_set ys (slice_index_or ats k 0) y) ≡ zs
next_changed f ats k ys zs d y lt new rest =
    ap (λ (xs : List Life). changed_at f (drop (k + 1) ats) xs) (set_here f (slice_index_or ats k 0) ys d y new) ∙ ap (λ (ns : List ℕ). changed_at f ns ys) (sym (drop_more ats k 0 lt)) ∙ rest

-- ---- what is handed over, place after place

abbrev pub handed_here : (Life → Bool) → List Bool → ℕ → List Life → List (List Bool) → List (List Bool)
handed_here test bits at [] hs = hs
handed_here test bits at (x ∷ xs) [] = []
handed_here test bits zero (x ∷ xs) (h ∷ hs) = (if test x then h ++ bits else h) ∷ hs
handed_here test bits (suc at) (x ∷ xs) (h ∷ hs) = h ∷ handed_here test bits at xs hs

abbrev pub handed_at : (Life → Bool) → List Bool → List ℕ → List Life → List (List Bool) → List (List Bool)
handed_at test bits [] xs hs = hs
handed_at test bits (at ∷ ats) xs hs = handed_at test bits ats xs (handed_here test bits at xs hs)

pub hand_here : (test : Life → Bool) (bits : List Bool) (at : ℕ) (xs : List Life) (hs : List (List Bool)) (d : Life) (g new : List Bool)
    → at < length xs → new ≡ (if test (slice_index_or xs at d) then slice_index_or hs at g ++ bits else slice_index_or hs at g) → slice_set hs at new ≡ handed_here test bits at xs hs
hand_here test bits at [] hs d g new lt is = absurd (omega (arith, lt))
hand_here test bits at (x ∷ xs) [] d g new lt is = refl
hand_here test bits zero (x ∷ xs) (h ∷ hs) d g new lt is = ap (λ (z : List Bool). z ∷ hs) is
hand_here test bits (suc at) (x ∷ xs) (h ∷ hs) d g new lt is = ap (λ (zs : List (List Bool)). h ∷ zs) (hand_here test bits at xs hs d g new (omega (arith, lt)) is)

pub hand_none : (test : Life → Bool) (bits : List Bool) (at : ℕ) (xs : List Life) (hs : List (List Bool)) → length hs ≤ at → hs ≡ handed_here test bits at xs hs
hand_none test bits at [] hs le = refl
hand_none test bits at (x ∷ xs) [] le = refl
hand_none test bits zero (x ∷ xs) (h ∷ hs) le = absurd (omega (arith, le))
hand_none test bits (suc at) (x ∷ xs) (h ∷ hs) le = ap (λ (zs : List (List Bool)). h ∷ zs) (hand_none test bits at xs hs (omega (arith, le)))

pub hand_shifted : (test : Life → Bool) (bits : List Bool) (ats : List ℕ) (x : Life) (xs : List Life) (h : List Bool) (hs : List (List Bool))
    → handed_at test bits (map suc ats) (x ∷ xs) (h ∷ hs) ≡ h ∷ handed_at test bits ats xs hs
hand_shifted test bits [] x xs h hs = refl
hand_shifted test bits (at ∷ ats) x xs h hs = hand_shifted test bits ats x xs h (handed_here test bits at xs hs)

pub none_handed : (test : Life → Bool) (bits : List Bool) (ats : List ℕ) (x : Life) (xs : List Life) → handed_at test bits ats (x ∷ xs) [] ≡ []
none_handed test bits [] x xs = refl
none_handed test bits (at ∷ ats) x xs = none_handed test bits ats x xs

pub next_handed : (test : Life → Bool) (bits : List Bool) (ats : List ℕ) (k : ℕ) (xs : List Life) (hs new zs : List (List Bool)) → k < length ats
    → new ≡ handed_here test bits (slice_index_or ats k 0) xs hs → handed_at test bits (drop k ats) xs hs ≡ zs → handed_at test bits (drop (k + 1) ats) xs new ≡ zs
next_handed test bits ats k xs hs new zs lt one rest =
    ap (λ (gs : List (List Bool)). handed_at test bits (drop (k + 1) ats) xs gs) one ∙ ap (λ (ns : List ℕ). handed_at test bits ns xs hs) (sym (drop_more ats k 0 lt)) ∙ rest
