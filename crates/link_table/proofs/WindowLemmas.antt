-- The laws of a window, for any modulus and any width that is less than half of it.
use Rattle.std.proofs.Common.{◌≡◌, ◌≢◌, ℕ, ◌+◌, ◌-◌, ◌*◌, ◌%◌, ◌<◌, ◌≤◌, true, false, Some, inl, inr, ap, ◌∙◌, arith}
use Rattle.std.proofs.Math.Nat.{mod-eq_of_lt, add-mod_left, mod_self}
use Rattle.std.proofs.lemmas.Nat.{mod_below}
use Rattle.std.proofs.lemmas.Bool.{cases_lt}
use Rattle.std.proofs.lemmas.Bool.Decides.{nat_tests}
use Rattle.link_table.specs.Window.{next_of, ahead_of, oldest_of, is_new_of, NearOf}

-- what lies at most once round further is the rest
once_round : (m x : ℕ) → m ≤ x → x < m + m → x % m ≡ x - m
once_round m x from to =
    let split : x ≡ m + (x - m) = omega (arith, from) in
    let below : x - m < m = omega (arith, from, to) in
    ap (λ (y : ℕ). y % m) split ∙ add-mod_left m (x - m) ∙ mod-eq_of_lt below

-- the steps from l to n, without a remainder: straight on, or past the end of the round
data Way (m l n a : ℕ) : Type 0 where
  Up : a + l ≡ n → Way m l n a
  Round : n < l → a + l ≡ n + m → Way m l n a

way : (m l n : ℕ) → l < m → n < m → Way m l n (ahead_of m l n)
way m l n lm nm = elim (cases_lt n l) [
  | inr le ↦ Up (let e : ahead_of m l n ≡ n + m - l - m = once_round m (n + m - l) (omega (arith, le)) (omega (arith, lm, nm)) in omega (arith, e, le))
  | inl lt ↦ Round lt (let e : ahead_of m l n ≡ n + m - l = mod-eq_of_lt (omega (arith, lt, lm)) in omega (arith, e, lt, lm))
]

pub next_in : (m w n : ℕ) → 2 * w + 1 ≤ m → next_of m n < m
next_in m w n wide = mod_below (n + 1) m (omega (arith, wide))

pub near_same : (m w l : ℕ) → 2 * w + 1 ≤ m → l < m → NearOf m w l l
near_same m w l wide lm = elim (way m l l lm lm) [
  | Up e ↦ record { last = lm; number = lm; close = omega (arith, e) }
  | Round lt e ↦ absurd (omega (arith, lt))
]

pub near_old : (m w l n : ℕ) → 2 * w + 1 ≤ m → NearOf m w l n → is_new_of m w (Some l) n ≡ false
near_old m w l n wide h = by (way m n l h.number h.last) (way m l n h.last h.number) where
  by : Way m n l (ahead_of m n l) → Way m l n (ahead_of m l n) → is_new_of m w (Some l) n ≡ false
  by (Up e) (Up f) = grind (arith, nat_tests, h.close, wide, e, f)
  by (Up e) (Round lt f) = grind (arith, nat_tests, h.close, wide, e, f)
  by (Round lt e) (Up f) = grind (arith, nat_tests, h.close, wide, e, f)
  by (Round lt e) (Round more f) = absurd (omega (arith, lt, more))

-- the next number, without a remainder
data After (m l k : ℕ) : Type 0 where
  Up : k ≡ l + 1 → After m l k
  Round : l + 1 ≡ m → k ≡ 0 → After m l k

after : (m l : ℕ) → l < m → After m l (next_of m l)
after m l lm = elim (cases_lt (l + 1) m) [
  | inl lt ↦ After.Up (mod-eq_of_lt lt)
  | inr le ↦ (let e : l + 1 ≡ m = omega (arith, le, lm) in After.Round e (ap (λ (y : ℕ). y % m) e ∙ mod_self m))
]

pub next_below : (m n : ℕ) → n + 1 < m → next_of m n ≡ n + 1
next_below m n below = mod-eq_of_lt below

pub next_last : (m : ℕ) → 0 < m → next_of m (m - 1) ≡ 0
next_last m some = ap (λ (y : ℕ). y % m) (let e : m - 1 + 1 ≡ m = omega (arith, some) in e) ∙ mod_self m

pub next_new : (m w l : ℕ) → 2 * w + 1 ≤ m → 1 ≤ w → l < m → is_new_of m w (Some l) (next_of m l) ≡ true
next_new m w l wide some lm = by (after m l lm) (way m l (next_of m l) lm (next_in m w l wide)) where
  by : After m l (next_of m l) → Way m l (next_of m l) (ahead_of m l (next_of m l)) → is_new_of m w (Some l) (next_of m l) ≡ true
  by (Up e) (Up f) = grind (arith, nat_tests, some, e, f)
  by (Up e) (Round lt f) = absurd (omega (arith, e, lt))
  by (Round last e) (Up f) = absurd (omega (arith, last, e, f, wide, some))
  by (Round last e) (Round lt f) = grind (arith, nat_tests, some, last, e, f)

pub new_again : (m w : ℕ) → 2 * w + 1 ≤ m → 1 ≤ w → is_new_of m w (Some (m - w)) 0 ≡ true
new_again m w wide some =
    let last : m - w < m = omega (arith, wide, some) in
    let first : 0 < m = omega (arith, wide) in
    by (way m (m - w) 0 last first) where
      by : Way m (m - w) 0 (ahead_of m (m - w) 0) → is_new_of m w (Some (m - w)) 0 ≡ true
      by (Up e) = absurd (omega (arith, e, wide))
      by (Round lt e) = (let steps : ahead_of m (m - w) 0 ≡ w = omega (arith, e, wide) in grind (arith, nat_tests, some, steps))

-- a number that lies a window before l is the oldest one
far_end : (m w l n : ℕ) → NearOf m w l n → w < m → ahead_of m n l ≡ w → n ≡ oldest_of m w l
far_end m w l n h short e = by (way m n l h.number h.last) (way m w l short h.last) where
  by : Way m n l (ahead_of m n l) → Way m w l (oldest_of m w l) → n ≡ oldest_of m w l
  by (Up a) (Up b) = omega (arith, a, b, e)
  by (Up a) (Round lt b) = absurd (omega (arith, a, lt, e))
  by (Round lt a) (Up b) = absurd (omega (arith, a, b, e, h.number))
  by (Round lt a) (Round more b) = omega (arith, a, b, e)

-- the distance to l and to the number after it, for a number before l
one_more : (m w l n k a b : ℕ) → 2 * w + 1 ≤ m → l < m → n < m → a < w → Way m n l a → After m l k → Way m n k b → b ≤ w
one_more m w l n k a b wide lm nm close (Up e) (Up f) (Up g) = omega (arith, close, e, f, g)
one_more m w l n k a b wide lm nm close (Up e) (Up f) (Round lt g) = absurd (omega (arith, e, f, lt))
one_more m w l n k a b wide lm nm close (Up e) (Round last f) (Up g) = omega (arith, close, e, last, f, g)
one_more m w l n k a b wide lm nm close (Up e) (Round last f) (Round lt g) = omega (arith, close, e, last, f, g)
one_more m w l n k a b wide lm nm close (Round less e) (Up f) (Up g) = omega (arith, close, less, e, f, g)
one_more m w l n k a b wide lm nm close (Round less e) (Up f) (Round lt g) = omega (arith, close, e, f, g)
one_more m w l n k a b wide lm nm close (Round less e) (Round last f) step = absurd (omega (arith, less, last, nm))

pub near_next : (m w l n : ℕ) → 2 * w + 1 ≤ m → NearOf m w l n → n ≢ oldest_of m w l → NearOf m w (next_of m l) n
near_next m w l n wide h other =
    let inside : next_of m l < m = next_in m w l wide in
    let short : w < m = omega (arith, wide) in
    let not_far : ahead_of m n l ≢ w = λ e. other (far_end m w l n h short e) in
    let closer : ahead_of m n l < w = omega (arith, h.close, not_far) in
    record {
      last = inside;
      number = h.number;
      close = one_more m w l n (next_of m l) (ahead_of m n l) (ahead_of m n (next_of m l)) wide h.last h.number closer
          (way m n l h.number h.last) (after m l h.last) (way m n (next_of m l) h.number inside);
    }

pub not_next : (m w l : ℕ) → 2 * w + 1 ≤ m → 1 < m → NearOf m w l (next_of m l) → ⊥
not_next m w l wide two h = by (after m l h.last) (way m (next_of m l) l h.number h.last) where
  by : After m l (next_of m l) → Way m (next_of m l) l (ahead_of m (next_of m l) l) → ⊥
  by (Up f) (Up e) = omega (arith, e, f)
  by (Up f) (Round lt e) = omega (arith, e, f, h.close, wide, two)
  by (Round last f) (Up e) = omega (arith, e, f, last, h.close, wide, two)
  by (Round last f) (Round lt e) = omega (arith, f, lt)
