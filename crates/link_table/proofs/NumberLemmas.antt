-- The window of this network. Only here are its two numbers looked at.
use Rattle.std.proofs.Common.{◌≡◌, ◌≢◌, ℕ, ◌+◌, ◌-◌, ◌*◌, ◌<◌, ◌≤◌, true, false, Some, refl, arith}
use Rattle.link_table.specs.Window.{NearOf}
use Rattle.link_table.specs.Numbers.{modulus, window, next, ahead, oldest, is_new, Near}
use Rattle.link_table.proofs.WindowLemmas as any

pub wide : 2 * window + 1 ≤ modulus
unfolding modulus window
wide = omega arith

pub two : 1 < modulus
unfolding modulus
two = omega arith

pub some_ahead : 1 ≤ window
unfolding window
some_ahead = omega arith

pub some_number : 0 < modulus
some_number = omega (arith, two)

-- the two ways to say that a number is near
near_of : (l n : ℕ) → Near l n → NearOf modulus window l n
unfolding ahead
near_of l n h = record { last = h.last; number = h.number; close = h.close }

near_from : (l n : ℕ) → NearOf modulus window l n → Near l n
unfolding ahead
near_from l n h = record { last = h.last; number = h.number; close = h.close }

pub next_in : (n : ℕ) → next n < modulus
unfolding next
next_in n = any.next_in modulus window n wide

pub near_same : (l : ℕ) → l < modulus → Near l l
near_same l lm = near_from l l (any.near_same modulus window l wide lm)

pub near_old : (l n : ℕ) → Near l n → is_new (Some l) n ≡ false
unfolding is_new
near_old l n h = any.near_old modulus window l n wide (near_of l n h)

pub near_next : (l n : ℕ) → Near l n → n ≢ oldest l → Near (next l) n
unfolding next oldest
near_next l n h other = near_from (next l) n (any.near_next modulus window l n wide (near_of l n h) other)

pub not_next : (l : ℕ) → Near l (next l) → ⊥
unfolding next
not_next l h = any.not_next modulus window l wide two (near_of l (next l) h)

pub next_below : (n : ℕ) → n + 1 < modulus → next n ≡ n + 1
unfolding next
next_below n below = any.next_below modulus n below

-- the numbers wrap around
pub next_last : next (modulus - 1) ≡ 0
unfolding next
next_last = any.next_last modulus some_number

pub next_new : (l : ℕ) → l < modulus → is_new (Some l) (next l) ≡ true
unfolding next is_new
next_new l lm = any.next_new modulus window l wide some_ahead lm

pub new_again : is_new (Some (modulus - window)) 0 ≡ true
unfolding is_new
new_again = any.new_again modulus window wide some_ahead

-- ---- the numbers of this network

pub last_new : is_new (Some 5) 32772 ≡ true
unfolding is_new modulus window
last_new = refl

pub first_old : is_new (Some 5) 32773 ≡ false
unfolding is_new modulus window
first_old = refl

pub round : (next 65535 ≡ 0) × (is_new (Some 65535) 0 ≡ true)
unfolding next is_new modulus window
round = (refl, refl)

pub next_begun : (next 32767 ≡ 32768) × (oldest 32767 ≡ 0)
unfolding next oldest modulus window
next_begun = (refl, refl)
