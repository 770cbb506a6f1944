-- Amounts of messages and of bits, by connection.
pub use Rattle.std.proofs.lemmas.Option.{same_Some as some_is}
use Rattle.std.proofs.Common.{◌≡◌, ◌≢◌, ◌⊎◌, ℕ, ◌+◌, ◌-◌, ◌<◌, ◌≤◌, ◌==◌, Bool, true, false, List, [], ◌∷◌, ◌++◌, length, Option, Some, None, refl, ap, sym, subst, ◌∙◌, inl, inr, if◌then◌else◌, eq-eqb, nat_lt, nat_le, arith}
use Rattle.std.proofs.lemmas.Bool.{eqb-true, leb-true, ltb-true, false_from_ne_true, and_parts}
use Rattle.std.proofs.Math.Nat.{min-le_left, min-eq_left}
use Rattle.ncp_control.specs.Allocation as counters
use Rattle.ncp_control.specs.declared.allocation.Allocation.{Allocation}
use Rattle.ncp_control.proofs.lemmas.{share-le}
use Rattle.stream_law.specs.Words.{Word, All, Ret, for, covers, holds}
use Rattle.stream_law.specs.Within.{message_bits, IsPrefix}

pub unlike : (a : Bool) → a ≡ true → a ≡ false → ⊥
unlike a e f = let same : true ≡ false = sym e ∙ f in absurd (cc)

-- ---- by connection

-- two connections that are the end's
pub both_are : (o : Option ℕ) (c k : ℕ) → o ≡ Some c → o ≡ Some k → k ≡ c
both_are o c k e f = some_is k c (sym f ∙ e)

pub at : {A : Type 0} (c : ℕ) (x : A) (f : ℕ → A) (k : ℕ) → ((k ≡ c) × (for c x f k ≡ x)) ⊎ ((k ≢ c) × (for c x f k ≡ f k))
at {A} c x f k = by (k == c) refl where
  by : (b : Bool) → (k == c) ≡ b → ((k ≡ c) × (for c x f k ≡ x)) ⊎ ((k ≢ c) × (for c x f k ≡ f k))
  by true e = inl (eqb-true k c e, rw e refl)
  by false e = inr ((λ same. let both : true ≡ false = sym (eq-eqb k c same) ∙ e in absurd (cc)), rw e refl)

pub for_here : {A : Type 0} (c : ℕ) (x : A) (f : ℕ → A) → for c x f c ≡ x
for_here {A} c x f = let e : (c == c) ≡ true = eq-eqb c c refl in rw e refl

-- what was true of a connection stays so
pub for_more : (c : ℕ) (f : ℕ → Bool) (k : ℕ) → f k ≡ true → for c true f k ≡ true
for_more c f k e = elim (at c true f k) [
  | inl t ↦ t.1
  | inr t ↦ (t.1 ∙ e)
]

-- and what isn't now was not before
pub for_less : (c : ℕ) (f : ℕ → Bool) (k : ℕ) → for c true f k ≡ false → f k ≡ false
for_less c f k e = false_from_ne_true (f k) (λ t. unlike _ (for_more c f k t) e)

-- the part of an amount of connection `d` that is of connection `k`
abbrev pub mine : ℕ → ℕ → ℕ → ℕ
mine k d n = if k == d then n else 0

pub mine_same : (k d n : ℕ) → k ≡ d → mine k d n ≡ n
mine_same k d n same = let e : (k == d) ≡ true = eq-eqb k d same in rw e refl

add_by : (b : Bool) (x y z : ℕ) → x + y ≡ z → (if b then x else 0) + (if b then y else 0) ≡ (if b then z else 0)
add_by true x y z e = e
add_by false x y z e = omega arith

pub mine_add : (k d x y z : ℕ) → x + y ≡ z → mine k d x + mine k d y ≡ mine k d z
mine_add k d x y z e = add_by _ x y z e

within_by : (b : Bool) (x y z : ℕ) → x ≤ y + z → (if b then x else 0) ≤ (if b then y else 0) + (if b then z else 0)
within_by true x y z l = l
within_by false x y z l = omega arith

pub mine_within : (k d x y z : ℕ) → x ≤ y + z → mine k d x ≤ mine k d y + mine k d z
mine_within k d x y z l = within_by _ x y z l

most_by : (b : Bool) (n : ℕ) → (if b then n else 0) ≤ n
most_by true n = omega arith
most_by false n = omega arith

pub mine_most : (k d n : ℕ) → mine k d n ≤ n
mine_most k d n = most_by _ n

-- ---- messages and bits alike

pub data Counter : Type 0 where
  Messages : Counter
  Bits : Counter

abbrev pub number : Counter → Allocation → ℕ
number Messages a = a.messages
number Bits a = a.bits

abbrev pub amount : Counter → ℕ → ℕ → ℕ
amount Messages messages bits = messages
amount Bits messages bits = bits

abbrev pub cost : Counter → List Bool → ℕ
cost Messages message = 1
cost Bits message = length message

abbrev pub total : Counter → List (List Bool) → ℕ
total u [] = 0
total u (m ∷ ms) = cost u m + total u ms

pub number_granted : (u : Counter) (a : Allocation) (m b : ℕ) → number u (counters.granted a m b) ≤ number u a + amount u m b
number_granted Messages a m b = min-le_left (a.messages + m) 65535
number_granted Bits a m b = min-le_left (a.bits + b) 4294967295

pub number_all : (u : Counter) (a : Allocation) (m b : ℕ) → a.messages + m ≤ 65535 → a.bits + b ≤ 4294967295 → number u (counters.granted a m b) ≡ number u a + amount u m b
number_all Messages a m b l n = min-eq_left l
number_all Bits a m b l n = min-eq_left n

pub number_spent : (u : Counter) (a : Allocation) (message : List Bool) → covers a (length message) ≡ true → number u (counters.spent a (length message)) + cost u message ≡ number u a
number_spent Messages a message c = let l : 0 < a.messages = ltb-true 0 a.messages (and_parts (nat_lt 0 a.messages) (nat_le (length message) a.bits) c).0 in omega (arith, l)
number_spent Bits a message c = let l : length message ≤ a.bits = leb-true (length message) a.bits (and_parts (nat_lt 0 a.messages) (nat_le (length message) a.bits) c).1 in omega (arith, l)

pub number_back : (u : Counter) (a : Allocation) (m b : ℕ) → number u (counters.given_back a m b) + amount u (counters.share a.messages m) (counters.share a.bits b) ≡ number u a
number_back Messages a m b = let l : counters.share a.messages m ≤ a.messages = share-le a.messages m in omega (arith, l)
number_back Bits a m b = let l : counters.share a.bits b ≤ a.bits = share-le a.bits b in omega (arith, l)

pub number_less : (u : Counter) (a : Allocation) (m b : ℕ) → holds a m b ≡ true → number u (record { messages = a.messages - m; bits = a.bits - b }) + amount u m b ≡ number u a
number_less Messages a m b c = let l : m ≤ a.messages = leb-true m a.messages (and_parts (nat_le m a.messages) (nat_le b a.bits) c).0 in omega (arith, l)
number_less Bits a m b c = let l : b ≤ a.bits = leb-true b a.bits (and_parts (nat_le m a.messages) (nat_le b a.bits) c).1 in omega (arith, l)

number_added : (u : Counter) (a : Allocation) (m b : ℕ) → number u (counters.added a m b) ≡ number u a + amount u m b
number_added Messages a m b = refl
number_added Bits a m b = refl

pub number_nothing : (u : Counter) → number u counters.nothing ≡ 0
number_nothing Messages = refl
number_nothing Bits = refl

pub number_for : (u : Counter) (k d m b : ℕ) (f : ℕ → Allocation) → number u (for d (counters.added (f d) m b) f k) ≡ number u (f k) + mine k d (amount u m b)
number_for u k d m b f = by (k == d) refl where
  by : (v : Bool) → (k == d) ≡ v → number u (if v then counters.added (f d) m b else f k) ≡ number u (f k) + (if v then amount u m b else 0)
  by true e = (number_added u (f d) m b ∙ ap (λ (j : ℕ). number u (f j) + amount u m b) (sym (eqb-true k d e)))
  by false e = omega arith

pub total_of : (u : Counter) (ms : List (List Bool)) (m : List Bool) → total u (ms ++ m ∷ []) ≡ total u ms + cost u m
total_of u [] m = omega arith
total_of u (x ∷ ms) m = let e : total u (ms ++ m ∷ []) ≡ total u ms + cost u m = total_of u ms m in omega (arith, e)

pub total_for : (u : Counter) (k d : ℕ) (m : List Bool) (f : ℕ → List (List Bool)) → total u (for d (f d ++ m ∷ []) f k) ≡ total u (f k) + mine k d (cost u m)
total_for u k d m f = by (k == d) refl where
  by : (v : Bool) → (k == d) ≡ v → total u (if v then f d ++ m ∷ [] else f k) ≡ total u (f k) + (if v then cost u m else 0)
  by true e = (total_of u (f d) m ∙ ap (λ (j : ℕ). total u (f j) + cost u m) (sym (eqb-true k d e)))
  by false e = omega arith

total_append : (u : Counter) (xs ys : List (List Bool)) → total u xs ≤ total u (xs ++ ys)
total_append u [] ys = omega arith
total_append u (x ∷ xs) ys = let l : total u xs ≤ total u (xs ++ ys) = total_append u xs ys in omega (arith, l)

pub total_front : (u : Counter) (xs ys : List (List Bool)) → IsPrefix xs ys → total u xs ≤ total u ys
total_front u xs ys f = subst (λ (zs : List (List Bool)). total u xs ≤ total u zs) f.1 (total_append u xs f.0)

pub total_messages : (ms : List (List Bool)) → total Messages ms ≡ length ms
total_messages [] = refl
total_messages (m ∷ ms) = let e : total Messages ms ≡ length ms = total_messages ms in omega (arith, e)

pub total_bits : (ms : List (List Bool)) → total Bits ms ≡ message_bits ms
total_bits [] = refl
total_bits (m ∷ ms) = let e : total Bits ms ≡ message_bits ms = total_bits ms in omega (arith, e)

-- ---- what is under way

abbrev pub granted_in : Counter → ℕ → List Word → ℕ
granted_in u k [] = 0
granted_in u k (All d m b ∷ w) = mine k d (amount u m b) + granted_in u k w
granted_in u k (other ∷ w) = granted_in u k w

abbrev pub returned_in : Counter → ℕ → List Word → ℕ
returned_in u k [] = 0
returned_in u k (Ret d m b ∷ w) = mine k d (amount u m b) + returned_in u k w
returned_in u k (other ∷ w) = returned_in u k w

pub granted_more : (u : Counter) (k : ℕ) (w : List Word) (x : Word) → granted_in u k (w ++ x ∷ []) ≡ granted_in u k w + granted_in u k (x ∷ [])
granted_more u k [] x = omega arith
granted_more u k (All d m b ∷ w) x = let e : granted_in u k (w ++ x ∷ []) ≡ granted_in u k w + granted_in u k (x ∷ []) = granted_more u k w x in omega (arith, e)
granted_more u k (other ∷ w) x = granted_more u k w x

pub returned_more : (u : Counter) (k : ℕ) (w : List Word) (x : Word) → returned_in u k (w ++ x ∷ []) ≡ returned_in u k w + returned_in u k (x ∷ [])
returned_more u k [] x = omega arith
returned_more u k (Ret d m b ∷ w) x = let e : returned_in u k (w ++ x ∷ []) ≡ returned_in u k w + returned_in u k (x ∷ []) = returned_more u k w x in omega (arith, e)
returned_more u k (other ∷ w) x = returned_more u k w x

-- what an end holds of a connection
abbrev pub held : Counter → ℕ → Option ℕ → Allocation → ℕ
held u k None a = 0
held u k (Some d) a = mine k d (number u a)

pub held_is : (u : Counter) (k d : ℕ) (o : Option ℕ) (a : Allocation) → o ≡ Some d → held u k o a ≡ mine k d (number u a)
held_is u k d o a e = ap (λ (p : Option ℕ). held u k p a) e
