-- Sockets that listen, and those that don't.
use Rattle.std.proofs.Common.{◌≡◌, ℕ, ◌<◌, ◌≤◌, ◌-◌, ◌==◌, ◌&&◌, ◌⊎◌, inl, inr, not, Bool, true, false, List, [], ◌∷◌, None, length, slice_index_or, nat_lt, refl, sym, ap, ◌∙◌, arith}
use Rattle.std.specs.BTreeSet.{BTreeSet, IsUpperBound, contains}
use Rattle.std.specs.Ordering.{nat_cmp}
use Rattle.std.specs.Bool.{OnFalse, OnTrue}
use Rattle.std.specs.List.Sorted.{IsPartitionPoint}
use Rattle.std.proofs.lemmas.Bool.{cases_lt}
use Rattle.std.proofs.lemmas.Bool.Decides.{nat_tests}
use Rattle.std.proofs.lemmas.Cmp.{nat_eq_equiv}
use Rattle.std.proofs.lemmas.List.Folds.{list_any_at, list_any_none}
use Rattle.std.proofs.lemmas.Map.Keys.{ge_from_not_lt}
use Rattle.std.proofs.lemmas.Map.Views.{any-filter_same}
use Rattle.host_pairs.specs.Desk.{listener_on, listens_on, without_listener}
use Rattle.host_pairs.specs.Inside.Listening.{AreAscending}
use Rattle.host_pairs.specs.declared.listener.Listener.{Listener}

none_more : (socket : ℕ) (l : Listener) (ls : List Listener) → (listens_on socket ls ≡ false → listener_on socket ls ≡ None) → (b : Bool) → (l.socket == socket) ≡ b
    → listens_on socket (l ∷ ls) ≡ false → listener_on socket (l ∷ ls) ≡ None
none_more socket l ls rest true e h = absurd (let f : true ≡ false = rw e at h in cc)
none_more socket l ls rest false e h = rw e (rest (rw e at h))

-- where no socket is this one there is no listener on it
pub none_listens : (socket : ℕ) (ls : List Listener) → listens_on socket ls ≡ false → listener_on socket ls ≡ None
none_listens socket [] h = refl
none_listens socket (l ∷ ls) h = none_more socket l ls (none_listens socket ls) (l.socket == socket) refl h

-- a number that is greater than the greatest one is none of them
beyond_by : (numbers : BTreeSet ℕ) (last n : ℕ) → IsUpperBound nat_cmp numbers last → last < n → (b : Bool) → contains nat_cmp numbers n ≡ b → b ≡ false
beyond_by numbers last n greatest lt true is = absurd (let le : n ≤ last = ge_from_not_lt last n (greatest n is) in omega (arith, le, lt))
beyond_by numbers last n greatest lt false is = refl

pub beyond_last : (numbers : BTreeSet ℕ) (last n : ℕ) → IsUpperBound nat_cmp numbers last → last < n → contains nat_cmp numbers n ≡ false
beyond_last numbers last n greatest lt = beyond_by numbers last n greatest lt (contains nat_cmp numbers n) refl

-- once one is removed it doesn't listen, and the others do as before
pub others_listen : (s t : ℕ) (ls : List Listener) → listens_on t (without_listener s ls) ≡ (not (s == t) && listens_on t ls)
others_listen s t ls = any-filter_same (λ (l : Listener). l.socket == t) (λ (l : Listener). not (l.socket == s)) (not (s == t)) (λ l h.
    let is : l.socket ≡ t = grind (arith, nat_tests, h) in
    ap (λ (n : ℕ). not (n == s)) is ∙ ap not (nat_eq_equiv.symm t s)) ls

-- ---- listeners that ascend

-- a number above the last is above all, so it is none of them
pub above_all : (socket : ℕ) (ls : List Listener) → AreAscending ls → ((d : Listener) → 0 < length ls → (slice_index_or ls (length ls - 1) d).socket < socket) → listens_on socket ls ≡ false
above_all socket ls up last = list_any_none (λ (l : Listener). l.socket == socket) ls (λ k d lt.
    let below : (slice_index_or ls k d).socket < socket = omega (arith, up k (length ls - 1) d (omega (arith, lt)) (omega (arith, lt)), last d (omega (arith, lt))) in
    grind (arith, nat_tests, below))

-- one that is at a place is one of them
found_at : (socket : ℕ) (ls : List Listener) (at : ℕ) → at < length ls → ((d : Listener) → (slice_index_or ls at d).socket ≡ socket) → listens_on socket ls ≡ true
found_at socket [] at lt same = absurd (omega (arith, lt))
found_at socket (l ∷ ls) at lt same = list_any_at (λ (x : Listener). x.socket == socket) (l ∷ ls) at l lt (let is : (slice_index_or (l ∷ ls) at l).socket ≡ socket = same l in grind (arith, nat_tests, is))

-- one that isn't between those below it and the others is none of them
missed_at : (socket : ℕ) (ls : List Listener) → AreAscending ls → (at : ℕ) → IsPartitionPoint (λ (l : Listener). nat_lt l.socket socket ≡ true) (λ (l : Listener). nat_lt l.socket socket ≡ false) ls at
    → (at < length ls → (d : Listener) → (slice_index_or ls at d).socket ≡ socket → ⊥) → listens_on socket ls ≡ false
missed_at socket ls up at parts off = list_any_none (λ (l : Listener). l.socket == socket) ls (λ k d lt. by k d lt (cases_lt k at)) where
  by : (k : ℕ) (d : Listener) → k < length ls → (k < at) ⊎ (at ≤ k) → ((slice_index_or ls k d).socket == socket) ≡ false
  by k d lt (inl before) = let low : nat_lt (slice_index_or ls k d).socket socket ≡ true = parts.0 k d (omega arith) before in grind (arith, nat_tests, low)
  by k d lt (inr behind) =
      let here : at < length ls = omega (arith, lt, behind) in
      let high : nat_lt (slice_index_or ls at d).socket socket ≡ false = parts.1 at d (omega arith) here in
      let other : (slice_index_or ls at d).socket ≡ socket → ⊥ = off here d in
      let on : (slice_index_or ls at d).socket ≤ (slice_index_or ls k d).socket = up at k d behind lt in
      grind (arith, nat_tests, high, other, on)

-- those before a place are below the number, and those from it on are not: it is one of them if it is there
pub at_point : (socket : ℕ) (ls : List Listener) → AreAscending ls → (at : ℕ) → IsPartitionPoint (λ (l : Listener). nat_lt l.socket socket ≡ true) (λ (l : Listener). nat_lt l.socket socket ≡ false) ls at
    → (b : Bool) → OnTrue b ((at < length ls) × ((d : Listener) → (slice_index_or ls at d).socket ≡ socket))
    → OnFalse b (at < length ls → (d : Listener) → (slice_index_or ls at d).socket ≡ socket → ⊥) → b ≡ listens_on socket ls
at_point socket ls up at parts true on off = sym (found_at socket ls at on.0 on.1)
at_point socket ls up at parts false on off = sym (missed_at socket ls up at parts off)
