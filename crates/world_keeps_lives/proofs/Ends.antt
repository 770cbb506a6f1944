-- The own ends on a socket, and those that refuse, where a list of ends changes.
pub use Rattle.host_keeps_streams.proofs.lemmas.{unchanged as none_changed}
use Rattle.world_keeps_lives.proofs.Common.{changed_first, has_cls, is_mine_on, Entry, AreRefusing, mine_on}
use Rattle.std.proofs.Common.{◌≡◌, ℕ, Bool, false, if◌then◌else◌, List, [], ◌∷◌, ◌++◌, map, filter, find, Some, refl, ap, sym, subst, ◌∙◌, true}
use Rattle.std.proofs.lemmas.List.Elements.{filter-append}
use Rattle.host_keeps_pairing.proofs.lemmas.{found_same}

-- ---- what is found

pub record IsSplit (test : Entry → Bool) (change : Entry → Entry) (xs : List Entry) (e : Entry) : Type 0 where
  pub front : List Entry
  pub rest : List Entry
  pub is : xs ≡ front ++ e ∷ rest
  pub now : changed_first test change xs ≡ front ++ change e ∷ rest
  pub passes : test e ≡ true

split_step : (test : Entry → Bool) (change : Entry → Entry) (x : Entry) (xs : List Entry) (e : Entry) → (find test xs ≡ Some e → IsSplit test change xs e) → (b : Bool) → test x ≡ b → find test (x ∷ xs) ≡ Some e → IsSplit test change (x ∷ xs) e
split_step test change x xs e rest true t f =
    let same : x ≡ e = found_same x e (rw t at f) in
    let now : changed_first test change (x ∷ xs) ≡ change x ∷ xs = rw t refl in
    subst (λ (y : Entry). IsSplit test change (x ∷ xs) y) same (record { front = []; rest = xs; is = refl; now = now; passes = t })
split_step test change x xs e rest false t f =
    let r : IsSplit test change xs e = rest (rw t at f) in
    let now : changed_first test change (x ∷ xs) ≡ x ∷ changed_first test change xs = rw t refl in
    record { front = x ∷ r.front; rest = r.rest; is = ap (λ (ys : List Entry). x ∷ ys) r.is; now = now ∙ ap (λ (ys : List Entry). x ∷ ys) r.now; passes = r.passes }

pub split : (test : Entry → Bool) (change : Entry → Entry) (xs : List Entry) (e : Entry) → find test xs ≡ Some e → IsSplit test change xs e
split test change [] e f = absurd (cc)
split test change (x ∷ xs) e f = split_step test change x xs e (split test change xs e) (test x) refl f

found_step : (test : Entry → Bool) (change : Entry → Entry) (x : Entry) (xs : List Entry) (e : Entry) → (find test xs ≡ Some e → find test (changed_first test change xs) ≡ Some (change e)) → test (change e) ≡ true
    → (b : Bool) → test x ≡ b → find test (x ∷ xs) ≡ Some e → find test (changed_first test change (x ∷ xs)) ≡ Some (change e)
found_step test change x xs e rest k true t f =
    let same : x ≡ e = found_same x e (rw t at f) in
    let there : test (change x) ≡ true = subst (λ (y : Entry). test (change y) ≡ true) (sym same) k in
    rw (t, there) (ap (λ (y : Entry). Some (change y)) same)
found_step test change x xs e rest k false t f = rw (t, t) (rest (rw t at f))

-- what is found is found again, if the change lets it
pub found_changed : (test : Entry → Bool) (change : Entry → Entry) (xs : List Entry) (e : Entry) → find test xs ≡ Some e → test (change e) ≡ true → find test (changed_first test change xs) ≡ Some (change e)
found_changed test change [] e f k = absurd (cc)
found_changed test change (x ∷ xs) e f k = found_step test change x xs e (λ g. found_changed test change xs e g k) k (test x) refl f

-- ---- own ends on a socket

pub mine_append : (k : ℕ) (xs ys : List Entry) → mine_on k (xs ++ ys) ≡ mine_on k xs ++ mine_on k ys
mine_append k xs ys = filter-append (is_mine_on k) xs ys

pub mine_one : (k : ℕ) (x : Entry) (xs : List Entry) (b : Bool) → is_mine_on k x ≡ b → mine_on k (x ∷ xs) ≡ (if b then x ∷ mine_on k xs else mine_on k xs)
mine_one k x xs true e = rw e refl
mine_one k x xs false e = rw e refl

-- ---- ends that refuse

abbrev pub IsRefusing : Entry → Type 0
IsRefusing e = e.mine ≡ false → has_cls e.closing ≡ true

pub refusing_append : (xs ys : List Entry) → AreRefusing xs → AreRefusing ys → AreRefusing (xs ++ ys)
refusing_append [] ys h k = k
refusing_append (x ∷ xs) ys h k = (h.0, refusing_append xs ys h.1 k)

pub refusing_found : (test : Entry → Bool) (xs : List Entry) (e : Entry) → AreRefusing xs → find test xs ≡ Some e → IsRefusing e
refusing_found test [] e h f = absurd (cc)
refusing_found test (x ∷ xs) e h f = by (refusing_found test xs e h.1) (test x) refl f where
  by : (find test xs ≡ Some e → IsRefusing e) → (b : Bool) → test x ≡ b → find test (x ∷ xs) ≡ Some e → IsRefusing e
  by rest true t g = let same : x ≡ e = found_same x e (rw t at g) in subst (λ (y : Entry). IsRefusing y) same h.0
  by rest false t g = rest (rw t at g)

pub refusing_changed : (test : Entry → Bool) (change : Entry → Entry) (xs : List Entry) → ((e : Entry) → IsRefusing e → IsRefusing (change e)) → AreRefusing xs → AreRefusing (changed_first test change xs)
refusing_changed test change [] k h = tt
refusing_changed test change (x ∷ xs) k h = by (test x) (refusing_changed test change xs k h.1) where
  by : (b : Bool) → AreRefusing (changed_first test change xs) → AreRefusing (if b then change x ∷ xs else x ∷ changed_first test change xs)
  by true rest = (k x h.0, h.1)
  by false rest = (h.0, rest)

pub refusing_mapped : (change : Entry → Entry) (xs : List Entry) → ((e : Entry) → IsRefusing e → IsRefusing (change e)) → AreRefusing xs → AreRefusing (map change xs)
refusing_mapped change [] k h = tt
refusing_mapped change (x ∷ xs) k h = (k x h.0, refusing_mapped change xs k h.1)

pub refusing_filtered : (test : Entry → Bool) (xs : List Entry) → AreRefusing xs → AreRefusing (filter test xs)
refusing_filtered test [] h = tt
refusing_filtered test (x ∷ xs) h = by (refusing_filtered test xs h.1) (test x) refl where
  by : AreRefusing (filter test xs) → (b : Bool) → test x ≡ b → AreRefusing (filter test (x ∷ xs))
  by rest true e = rw e (h.0, rest)
  by rest false e = rw e rest
