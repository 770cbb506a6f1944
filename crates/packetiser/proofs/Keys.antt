-- What is at the keys of a list, where each key has something.
use Rattle.std.proofs.Common.{◌≡◌, ◌≢◌, ℕ, zero, suc, ◌+◌, ◌<◌, ◌≤◌, Bool, List, [], ◌∷◌, length, get_or, set, refl, ap, sym, ◌∙◌, arith, All, Option, Some, None, IsSome, insert, remove, filter_map, inl, inr}
use Rattle.std.specs.List.{position_or_len, slice_get}
use Rattle.std.proofs.lemmas.Bool.{cases_Bool}
use Rattle.std.proofs.lemmas.List.Elements.{All-cons, All-nil, All-head, All-tail, All-weaker}
use Rattle.packetiser.specs.Inside.{AreApart}

-- something is there
pub some_of : {Y : Type 0} (o : Option Y) → IsSome o → (y : Y) × (o ≡ Some y)
some_of None h = absurd (cc)
some_of (Some y) h = (y, refl)

-- each key has something
abbrev pub AreThere : {Y : Type 0} → (ℕ → Option Y) → List ℕ → Type 0
AreThere h keys = All (λ key. IsSome (h key)) keys

module _ {Y : Type 0} (h : ℕ → Option Y) where
  pub first_there : (key : ℕ) (keys : List ℕ) → AreThere h (key ∷ keys) → (y : Y) × (h key ≡ Some y)
  first_there key keys all = some_of (h key) (All-head (λ k. IsSome (h k)) key keys all)

  rest_there : (key : ℕ) (keys : List ℕ) → AreThere h (key ∷ keys) → AreThere h keys
  rest_there key keys all = All-tail (λ k. IsSome (h k)) key keys all

  pub length-there : (keys : List ℕ) → AreThere h keys → length (filter_map h keys) ≡ length keys
  length-there [] all = refl
  length-there (key ∷ keys) all =
      let here = first_there key keys all in
      rw here.1 (ap suc (length-there keys (rest_there key keys all)))

  pub get-there : (keys : List ℕ) (at d : ℕ) → AreThere h keys → at < length keys → h (get_or keys at d) ≡ slice_get (filter_map h keys) at
  get-there [] at d all within = absurd (omega arith)
  get-there (key ∷ keys) zero d all within =
      let here = first_there key keys all in
      rw here.1 refl
  get-there (key ∷ keys) (suc at) d all within =
      let here = first_there key keys all in
      rw here.1 (get-there keys at d (rest_there key keys all) (omega arith))

  pub first-there : (p : Y → Bool) (q : ℕ → Bool) → ((key : ℕ) (y : Y) → h key ≡ Some y → q key ≡ p y) → (keys : List ℕ) → AreThere h keys
      → position_or_len q keys ≡ position_or_len p (filter_map h keys)
  first-there p q same [] all = refl
  first-there p q same (key ∷ keys) all =
      let here = first_there key keys all in
      elim (cases_Bool (p here.0)) [
        | inl e ↦ rw (here.1, same key here.0 here.1, e) refl
        | inr e ↦ rw (here.1, same key here.0 here.1, e) (ap (λ (n : ℕ). 1 + n) (first-there p q same keys (rest_there key keys all)))
      ]

  pub insert-there : (keys : List ℕ) (at key : ℕ) (y : Y) → AreThere h keys → at ≤ length keys → h key ≡ Some y
      → filter_map h (insert keys at key) ≡ insert (filter_map h keys) at y
  insert-there keys zero key y all within new = rw new refl
  insert-there [] (suc at) key y all within new = absurd (omega arith)
  insert-there (first ∷ keys) (suc at) key y all within new =
      let here = first_there first keys all in
      rw here.1 (ap (λ (ys : List Y). here.0 ∷ ys) (insert-there keys at key y (rest_there first keys all) (omega arith) new))

  pub remove-there : (keys : List ℕ) (at : ℕ) → AreThere h keys → at < length keys → filter_map h (remove keys at) ≡ remove (filter_map h keys) at
  remove-there [] at all within = absurd (omega arith)
  remove-there (first ∷ keys) zero all within = let here = first_there first keys all in rw here.1 refl
  remove-there (first ∷ keys) (suc at) all within =
      let here = first_there first keys all in
      rw here.1 (ap (λ (ys : List Y). here.0 ∷ ys) (remove-there keys at (rest_there first keys all) (omega arith)))

  -- nothing changes where nothing changes at the keys
  pub same-there : (g : ℕ → Option Y) (keys : List ℕ) → All (λ key. g key ≡ h key) keys → filter_map g keys ≡ filter_map h keys
  same-there g [] same = refl
  same-there g (key ∷ keys) same = rw (All-head (λ k. g k ≡ h k) key keys same, same-there g keys (All-tail (λ k. g k ≡ h k) key keys same)) refl

  -- one key changes
  pub set-there : (g : ℕ → Option Y) (keys : List ℕ) (at key d : ℕ) (y : Y) → AreThere h keys → AreApart keys → at < length keys → get_or keys at d ≡ key → g key ≡ Some y
      → ((other : ℕ) → other ≢ key → g other ≡ h other) → filter_map g keys ≡ set (filter_map h keys) at y
  set-there g [] at key d y all apart within is new others = absurd (omega arith)
  set-there g (first ∷ keys) zero key d y all apart within is new others =
      let here = first_there first keys all in
      let new_here : g first ≡ Some y = ap g is ∙ new in
      let rest : filter_map g keys ≡ filter_map h keys = same-there g keys (All-weaker (λ other. other ≢ first) (λ other. g other ≡ h other) (λ other differs. others other (λ same. differs (same ∙ sym is))) keys apart.0) in
      rw (here.1, new_here, rest) refl
  set-there g (first ∷ keys) (suc at) key d y all apart within is new others =
      let here = first_there first keys all in
      let differs : first ≢ key = λ same. apart.0 at d (omega arith) (is ∙ sym same) in
      let kept : g first ≡ Some here.0 = others first differs ∙ here.1 in
      rw (here.1, kept) (ap (λ (ys : List Y). here.0 ∷ ys) (set-there g keys at key d y (rest_there first keys all) apart.1 (omega arith) is new others))

-- ---- a property of keys, and keys apart, where one comes or goes

pub All-insert : {X : Type 0} (P : X → Type 0) (xs : List X) (at : ℕ) (x : X) → All P xs → P x → All P (insert xs at x)
All-insert P xs zero x all here = All-cons P x xs here all
All-insert P [] (suc at) x all here = All-cons P x [] here all
All-insert P (y ∷ xs) (suc at) x all here = All-cons P y (insert xs at x) (All-head P y xs all) (All-insert P xs at x (All-tail P y xs all) here)

pub All-remove : {X : Type 0} (P : X → Type 0) (xs : List X) (at : ℕ) → All P xs → All P (remove xs at)
All-remove P [] zero all = all
All-remove P [] (suc at) all = all
All-remove P (y ∷ xs) zero all = All-tail P y xs all
All-remove P (y ∷ xs) (suc at) all = All-cons P y (remove xs at) (All-head P y xs all) (All-remove P xs at (All-tail P y xs all))

pub apart-insert : (keys : List ℕ) (at key : ℕ) → AreApart keys → All (λ other. other ≢ key) keys → AreApart (insert keys at key)
apart-insert keys zero key apart new = (new, apart)
apart-insert [] (suc at) key apart new = (All-nil (λ other. other ≢ key), tt)
apart-insert (first ∷ keys) (suc at) key apart new = (
  All-insert (λ other. other ≢ first) keys at key apart.0 (λ same. All-head (λ other. other ≢ key) first keys new (sym same)),
  apart-insert keys at key apart.1 (All-tail (λ other. other ≢ key) first keys new),
)

pub apart-remove : (keys : List ℕ) (at : ℕ) → AreApart keys → AreApart (remove keys at)
apart-remove [] zero apart = tt
apart-remove [] (suc at) apart = tt
apart-remove (first ∷ keys) zero apart = apart.1
apart-remove (first ∷ keys) (suc at) apart = (All-remove (λ other. other ≢ first) keys at apart.0, apart-remove keys at apart.1)

-- a key that is taken out is no longer there
pub removed-apart : (keys : List ℕ) (at d : ℕ) → AreApart keys → at < length keys → All (λ other. other ≢ get_or keys at d) (remove keys at)
removed-apart [] at d apart within = absurd (omega arith)
removed-apart (first ∷ keys) zero d apart within = apart.0
removed-apart (first ∷ keys) (suc at) d apart within =
    All-cons (λ other. other ≢ get_or keys at d) first (remove keys at) (λ same. apart.0 at d (omega arith) (sym same)) (removed-apart keys at d apart.1 (omega arith))
