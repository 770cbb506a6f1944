-- The lives of one own request, from the last to the first: whoever goes through them misses none.
use Rattle.book_judge.proofs.Common.{◌≡◌, ℕ, ◌+◌, ◌<◌, ◌≤◌, true, ◌&&◌, List, [], ◌∷◌, ◌++◌, length, get_or, Option, Some, None, refl, ap, sym, subst, ◌∙◌, inl, inr, arith, nat_cmp, cases_lt, slice_get_read, slice_get_within, get-empty, same_host, and_true, Name, own_request, receives, sends, Life}
use Rattle.book_judge.specs.Inside.Asked.{found_at, same_name, key}
use Rattle.book_judge.specs.Inside.Chains.{AreChained, IsLast, SoughtAt, fits, NoneWith}
use Rattle.std.specs.List.{slice_get}
use Rattle.std.specs.FinMap as map
use Rattle.book_judge.specs.declared.sought.Sought.{Sought}
use Rattle.book_judge.proofs.Identities.Asked.{below_cases, grown_get, grown_last, grown_length}
use Rattle.book_judge.proofs.Elements.{read_at}
use Rattle.book_judge.proofs.Identities.Known.{same_true}
use Rattle.book_judge.proofs.Identities.Placed.{set_cases}

-- ---- chains that grow

none_more : (k from n : ℕ) (lives : List Life) (x : Life) → slice_get lives n ≡ Some x → (key (own_request x) ≡ k → ⊥) → NoneWith k from n lives → NoneWith k from (n + 1) lives
none_more k from n lives x e other none = λ i y low l f same. elim (below_cases i n l) [
  | inl s ↦ (let there : slice_get lives n ≡ Some y = ap (λ (j : ℕ). slice_get lives j) (sym s) ∙ f in
      let one : x ≡ y = cc in other (ap (λ (z : Life). key (own_request z)) one ∙ same))
  | inr b ↦ none i y low b f same
]

last_more : (k n : ℕ) (lives : List Life) (x : Life) (o : Option ℕ) → slice_get lives n ≡ Some x → (key (own_request x) ≡ k → ⊥) → IsLast k n lives o → IsLast k (n + 1) lives o
last_more k n lives x None e other h = none_more k 0 n lives x e other h
last_more k n lives x (Some p) e other h = (omega (arith, h.0), h.1, none_more k (p + 1) n lives x e other h.2)

last_here : (k n : ℕ) (lives : List Life) (x : Life) → slice_get lives n ≡ Some x → key (own_request x) ≡ k → IsLast k (n + 1) lives (Some n)
last_here k n lives x e same = (
  omega arith,
  λ y f. (let one : x ≡ y = cc in ap (λ (z : Life). key (own_request z)) (sym one) ∙ same),
  λ i y low l f other. omega (arith, low, l),
)

ends_more : (n : ℕ) (last : map.FinMap nat_cmp ℕ) (lives : List Life) (x : Life) → slice_get lives n ≡ Some x → ((k : ℕ) → IsLast k n lives (map.get last k))
    → (k : ℕ) → IsLast k (n + 1) lives (map.get (map.insert last (key (own_request x)) n) k)
ends_more n last lives x e ends k =
    let P : Option ℕ → Type 0 = λ o. IsLast k (n + 1) lives o in
    elim (set_cases last (key (own_request x)) n k) [
      | inl s ↦ subst P (sym s.1) (last_here k n lives x e (sym s.0))
      | inr s ↦ subst P (sym s.1) (last_more k n lives x (map.get last k) e (λ t. s.0 (sym t)) (ends k))
    ]

links_more : (n : ℕ) (last : map.FinMap nat_cmp ℕ) (before : List (Option ℕ)) (lives : List Life) (x : Life) → slice_get lives n ≡ Some x → AreChained n last before lives
    → (i : ℕ) (y : Life) → i < n + 1 → slice_get lives i ≡ Some y
    → (found : Option ℕ) × (slice_get (before ++ map.get last (key (own_request x)) ∷ []) i ≡ Some found) × IsLast (key (own_request y)) i lives found
links_more n last before lives x e c i y l f = elim (below_cases i n l) [
  | inl s ↦
      (let there : slice_get lives n ≡ Some y = ap (λ (j : ℕ). slice_get lives j) (sym s) ∙ f in
      let one : x ≡ y = cc in
      let P : ℕ → ℕ → Type 0 = λ k j. IsLast k j lives (map.get last (key (own_request x))) in
      let at : IsLast (key (own_request x)) n lives (map.get last (key (own_request x))) = c.ends (key (own_request x)) in (
        map.get last (key (own_request x)),
        grown_last before (map.get last (key (own_request x))) i (s ∙ sym c.counts),
        subst (λ (j : ℕ). P (key (own_request y)) j) (sym s) (subst (λ (z : Life). P (key (own_request z)) n) one at),
      ))
  | inr b ↦ (let t = c.links i y b f in (t.0, grown_get before (map.get last (key (own_request x))) i t.0 t.1, t.2))
]

pub chain_init : (last : map.FinMap nat_cmp ℕ) (before : List (Option ℕ)) (lives : List Life) → last ≡ map.empty → before ≡ [] → AreChained 0 last before lives
chain_init last before lives e f =
    let P : ℕ → Option ℕ → Type 0 = λ k o. IsLast k 0 lives o in
    record {
      counts = ap (λ (os : List (Option ℕ)). length os) f;
      ends = λ k. subst (P k) (sym (ap (λ (m : map.FinMap nat_cmp ℕ). map.get m k) e ∙ get-empty nat_cmp k)) (λ i x low l g same. absurd (omega (arith, l)));
      links = λ i x l g. absurd (omega (arith, l));
    }

pub chain_next : (n k : ℕ) (last more : map.FinMap nat_cmp ℕ) (before next : List (Option ℕ)) (lives : List Life) (x : Life) (own : Name) (found : Option ℕ)
    → n < length lives → x ≡ get_or lives n x → own ≡ own_request x → k ≡ key own → found ≡ map.get last k → next ≡ before ++ found ∷ []
    → more ≡ map.insert last k n → AreChained n last before lives → AreChained (n + 1) more next lives
chain_next n k last more before next lives x own found h at is e f g m c =
    let here : slice_get lives n ≡ Some x = slice_get_read lives (length lives) n x refl h at in
    let same : k ≡ key (own_request x) = e ∙ ap (λ (z : Name). key z) is in
    let P : map.FinMap nat_cmp ℕ → List (Option ℕ) → Type 0 = λ a b. AreChained (n + 1) a b lives in
    let links : next ≡ before ++ map.get last (key (own_request x)) ∷ [] = g ∙ ap (λ (o : Option ℕ). before ++ o ∷ []) (f ∙ ap (λ (j : ℕ). map.get last j) same) in
    let ends : more ≡ map.insert last (key (own_request x)) n = m ∙ ap (λ (j : ℕ). map.insert last j n) same in
    subst (λ (a : map.FinMap nat_cmp ℕ). P a next) (sym ends)
    (subst (λ (b : List (Option ℕ)). P (map.insert last (key (own_request x)) n) b) (sym links) (record {
      counts = grown_length before (map.get last (key (own_request x))) ∙ ap (λ (j : ℕ). j + 1) c.counts;
      ends = ends_more n last lives x here c.ends;
      links = links_more n last before lives x here c;
    }))

pub all_chained : (n : ℕ) (last : map.FinMap nat_cmp ℕ) (before : List (Option ℕ)) (lives : List Life) → length lives ≤ n → n ≤ length lives
    → AreChained n last before lives → AreChained (length lives) last before lives
all_chained n last before lives h l c = let e : n ≡ length lives = omega (arith, h, l) in let P : ℕ → Type 0 = λ m. AreChained m last before lives in subst P e c

-- ---- who goes through a chain

-- what is looked for is only at lives whose own request has this key
abbrev pub IsKeyed : ℕ → List Life → (ℕ → Type 0) → Type 0
IsKeyed k lives Is = (i : ℕ) → Is i → (x : Life) × (slice_get lives i ≡ Some x) × (key (own_request x) ≡ k)

-- from some place on it was not found, and the last life with the key before that is this one
pub record HasWalked (k : ℕ) (lives : List Life) (Is : ℕ → Type 0) (at : Option ℕ) : Type 0 where
  pub end : ℕ
  pub within : end ≤ length lives
  pub last : IsLast k end lives at
  pub none : (i : ℕ) → end ≤ i → Is i → ⊥

pub walk_init : (k : ℕ) (lives : List Life) (Is : ℕ → Type 0) (at : Option ℕ) (last : map.FinMap nat_cmp ℕ) (before : List (Option ℕ))
    → IsKeyed k lives Is → AreChained (length lives) last before lives → at ≡ map.get last k → HasWalked k lives Is at
walk_init k lives Is at last before keyed c e =
    let P : Option ℕ → Type 0 = λ o. IsLast k (length lives) lives o in
    record {
      end = length lives;
      within = omega arith;
      last = subst P (sym e) (c.ends k);
      none = λ i l is. (let t = keyed i is in let w = slice_get_within lives i t.0 t.1 in omega (arith, l, w));
    }

none_past : (k : ℕ) (lives : List Life) (Is : ℕ → Type 0) (p : ℕ) → IsKeyed k lives Is → (w : HasWalked k lives Is (Some p)) → (Is p → ⊥)
    → (i : ℕ) → p ≤ i → Is i → ⊥
none_past k lives Is p keyed w not i l is = elim (cases_lt p i) [
  | inl lt ↦ elim (cases_lt i w.end) [
    | inl b ↦ (let t = keyed i is in w.last.2 i t.0 (omega (arith, lt)) b t.1 t.2)
    | inr ge ↦ w.none i ge is
  ]
  | inr ge ↦ (let e : i ≡ p = omega (arith, l, ge) in not (subst Is e is))
]

pub walk_next : (k p : ℕ) (lives : List Life) (Is : ℕ → Type 0) (next : Option ℕ) (last : map.FinMap nat_cmp ℕ) (before : List (Option ℕ))
    → IsKeyed k lives Is → AreChained (length lives) last before lives → HasWalked k lives Is (Some p) → (Is p → ⊥)
    → next ≡ found_at (slice_get before p) → HasWalked k lives Is next
walk_next k p lives Is next last before keyed c w not e =
    let below : p < length lives = omega (arith, w.last.0, w.within) in
    let x = read_at lives p below in
    let t = c.links p x.0 below x.1 in
    let same : key (own_request x.0) ≡ k = w.last.1 x.0 x.1 in
    let is : next ≡ t.0 = e ∙ ap (λ (o : Option (Option ℕ)). found_at o) t.1 in
    let P : ℕ → Option ℕ → Type 0 = λ j o. IsLast j p lives o in
    record {
      end = p;
      within = omega (arith, below);
      last = subst (P k) (sym is) (subst (λ (j : ℕ). P j t.0) same t.2);
      none = none_past k lives Is p keyed w not;
    }

pub walk_end : (k : ℕ) (lives : List Life) (Is : ℕ → Type 0) → IsKeyed k lives Is → HasWalked k lives Is None → (i : ℕ) → Is i → ⊥
walk_end k lives Is keyed w i is = elim (cases_lt i w.end) [
  | inl l ↦ (let t = keyed i is in w.last i t.0 (omega arith) l t.1 t.2)
  | inr ge ↦ w.none i ge is
]

-- how much of a chain is left
abbrev pub left_at : Option ℕ → ℕ
left_at None = 0
left_at (Some p) = p + 1

pub walk_less : (k p : ℕ) (lives : List Life) (Is : ℕ → Type 0) (next : Option ℕ) → (w : HasWalked k lives Is next) → w.end ≡ p → left_at next < p + 1
walk_less k p lives Is None w e = omega arith
walk_less k p lives Is (Some q) w e = omega (arith, w.last.0, e)

-- the same where the place is known by what was found
pub walk_on : (k p : ℕ) (lives : List Life) (Is : ℕ → Type 0) (at next : Option ℕ) (last : map.FinMap nat_cmp ℕ) (before : List (Option ℕ))
    → IsKeyed k lives Is → AreChained (length lives) last before lives → HasWalked k lives Is at → at ≡ Some p → (Is p → ⊥)
    → next ≡ found_at (slice_get before p) → HasWalked k lives Is next
walk_on k p lives Is at next last before keyed c w e not f =
    let P : Option ℕ → Type 0 = λ o. HasWalked k lives Is o in walk_next k p lives Is next last before keyed c (subst P e w) not f

pub walk_smaller : (k p : ℕ) (lives : List Life) (Is : ℕ → Type 0) (at next : Option ℕ) (last : map.FinMap nat_cmp ℕ) (before : List (Option ℕ))
    → IsKeyed k lives Is → AreChained (length lives) last before lives → HasWalked k lives Is at → at ≡ Some p → (Is p → ⊥)
    → next ≡ found_at (slice_get before p) → left_at next < left_at at
unfolding walk_next
walk_smaller k p lives Is at next last before keyed c w e not f =
    let P : Option ℕ → Type 0 = λ o. HasWalked k lives Is o in
    let less : left_at next < p + 1 = walk_less k p lives Is next (walk_next k p lives Is next last before keyed c (subst P e w) not f) refl in
    let Q : ℕ → Type 0 = λ n. left_at next < n in subst Q (sym (ap (λ (o : Option ℕ). left_at o) e)) less

pub walk_over : (k : ℕ) (lives : List Life) (Is : ℕ → Type 0) (at : Option ℕ) → IsKeyed k lives Is → HasWalked k lives Is at → ((p : ℕ) → at ≡ Some p → ⊥)
    → (i : ℕ) → Is i → ⊥
walk_over k lives Is None keyed w none = walk_end k lives Is keyed w
walk_over k lives Is (Some p) keyed w none = absurd (none p refl)

-- ---- what is looked for

fit_key : (a : Name) (x : Life) (b : Name) (y : Life) → fits a x b y ≡ true → key (own_request y) ≡ key a
fit_key a x b y h =
    let t = and_true (receives x && sends y && same_host x.peer y.host && same_host y.peer x.host && same_name a (own_request y)) (same_name b (own_request x)) h in
    let u = and_true (receives x && sends y && same_host x.peer y.host && same_host y.peer x.host) (same_name a (own_request y)) t.0 in
    ap (λ (z : Name). key z) (sym (same_true a (own_request y) u.1))

pub sought_keyed : (s : Sought) (a : Name) (x : Life) (names : List Name) (lives : List Life) (k : ℕ) → k ≡ key a → IsKeyed k lives (SoughtAt s a x names lives)
sought_keyed s a x names lives k e = λ i (b, y, f, g, h, p). (y, g, fit_key a x b y h ∙ sym e)
