-- Decimals of any number, and octets of any bits: they have no marks. Short numbers have decimals of their own, and bits the decimal
-- of their length and their octets together.
use Rattle.trace.proofs.Common.{nat_tests, All-cons, All-nil, All, list_all, Lacks, IsShort}
use Rattle.std.proofs.Common.{◌≡◌, ℕ, zero, suc, ◌+◌, ◌*◌, ◌/◌, ◌%◌, ◌<◌, ◌≤◌, ◌==◌, nat_lt, Bool, true, false, List, [], ◌∷◌, ◌++◌, if◌then◌else◌, length, replicate, Ok, refl, sym, ap, ◌∙◌, arith, append_assoc, length-append}
use Rattle.std.proofs.lemmas.Fmt.{decimal_is_IsNumeral_wide}
use Rattle.std.proofs.lemmas.List.{length-replicate}
use Rattle.std.specs.Fmt.{decimal, digit_glyph, digits, digits_onto}
use Rattle.std.specs.Str.Parse.{digits_value}
use Rattle.hex.proofs.HexLemmas.{decode_of-encode_upper}
use Rattle.hex.specs.Hex.{decode_of, encode_upper}
use Rattle.bit_messages.specs.Octets.{octets_of, spare_bits}
use Rattle.bit_messages.proofs.lemmas.{bits_again, length-bits_of}
use Rattle.script.specs.Spelling.{is_upper_digit, octets_text}
use Rattle.script.proofs.lemmas.{octets_are_small, spelled_digits, text_once}
use Rattle.trace.proofs.Closed.{IsClosed, first_same, is_plain, plain_closed, rest_same}

-- ---- digits

abbrev glyph : ℕ → ℕ
glyph n = digit_glyph false (n % 10)

glyph_is : (n : ℕ) → glyph n ≡ 48 + n % 10
glyph_is n = ap (λ (b : Bool). if b then 48 + n % 10 else 87 + n % 10) below where
  below : nat_lt (n % 10) 10 ≡ true
  below = grind (arith, nat_tests)

onto_all : (P : ℕ → Type 0) → ((n : ℕ) → P (glyph n)) → (k n : ℕ) (acc : List ℕ) → All P acc → All P (digits_onto k 10 false n acc)
onto_all P each zero n acc all = all
onto_all P each (suc k) n acc all = by (onto_all P each k (n / 10) (glyph n ∷ acc) more) (n / 10 == 0) where
  more : All P (glyph n ∷ acc)
  more = All-cons P (glyph n) acc (each n) all

  by : All P (digits_onto k 10 false (n / 10) (glyph n ∷ acc)) → (b : Bool) → All P (if b then glyph n ∷ acc else digits_onto k 10 false (n / 10) (glyph n ∷ acc))
  by rest true = more
  by rest false = rest

pub decimal_lacks : (mark n : ℕ) → mark < 48 → Lacks mark (decimal n)
unfolding digits
decimal_lacks mark n low = onto_all _ each 64 n [] (All-nil (λ x. (x == mark) ≡ false)) where
  each : (m : ℕ) → (glyph m == mark) ≡ false
  each m = let is : glyph m ≡ 48 + m % 10 = glyph_is m in grind (arith, nat_tests)

-- the last digit of a number is that of its decimal
record EndsIn (digit : ℕ) (behind ds : List ℕ) : Type 0 where
  front : List ℕ
  is : ds ≡ front ++ digit ∷ behind

onto_ends : (k n : ℕ) (acc : List ℕ) → EndsIn (glyph n) acc (digits_onto (suc k) 10 false n acc)
onto_ends zero n acc = by (n / 10 == 0) where
  by : (b : Bool) → EndsIn (glyph n) acc (if b then glyph n ∷ acc else glyph n ∷ acc)
  by true = record { front = []; is = refl }
  by false = record { front = []; is = refl }
onto_ends (suc k) n acc = by (onto_ends k (n / 10) (glyph n ∷ acc)) (n / 10 == 0) where
  by : EndsIn (glyph (n / 10)) (glyph n ∷ acc) (digits_onto (suc k) 10 false (n / 10) (glyph n ∷ acc)) → (b : Bool)
      → EndsIn (glyph n) acc (if b then glyph n ∷ acc else digits_onto (suc k) 10 false (n / 10) (glyph n ∷ acc))
  by more true = record { front = []; is = refl }
  by more false = record { front = more.front ++ glyph (n / 10) ∷ []; is = more.is ∙ sym (append_assoc more.front (glyph (n / 10) ∷ []) (glyph n ∷ acc)) }

decimal_ends : (n : ℕ) → EndsIn (glyph n) [] (decimal n)
unfolding digits
decimal_ends n = onto_ends 63 n []

not_empty : (xs : List ℕ) (x : ℕ) → [] ≡ xs ++ x ∷ [] → ⊥
not_empty [] x e = absurd (cc)
not_empty (y ∷ xs) x e = absurd (cc)

last_same : (xs ys : List ℕ) (x y : ℕ) → xs ++ x ∷ [] ≡ ys ++ y ∷ [] → x ≡ y
last_same [] [] x y e = first_same e
last_same [] (z ∷ ys) x y e = absurd (not_empty ys y (rest_same e))
last_same (z ∷ xs) [] x y e = absurd (not_empty xs x (sym (rest_same e)))
last_same (w ∷ xs) (z ∷ ys) x y e = last_same xs ys x y (rest_same e)

last_digit : (m n : ℕ) → decimal m ≡ decimal n → m % 10 ≡ n % 10
last_digit m n e =
    let one = decimal_ends m in
    let other = decimal_ends n in
    let same : glyph m ≡ glyph n = last_same _ _ _ _ (sym one.is ∙ e ∙ other.is) in
    let digits : 48 + m % 10 ≡ 48 + n % 10 = sym (glyph_is m) ∙ same ∙ glyph_is n in
    omega (arith, digits)

decimal_plain : (n : ℕ) → All (λ c. is_plain c ≡ true) (decimal n)
unfolding digits
decimal_plain n = onto_all _ each 64 n [] (All-nil (λ c. is_plain c ≡ true)) where
  plain : (c : ℕ) → 48 ≤ c → c < 58 → is_plain c ≡ true
  plain c low high =
      let a : (c == 34) ≡ false = grind (arith, nat_tests) in
      let b : (c == 91) ≡ false = grind (arith, nat_tests) in
      let d : (c == 123) ≡ false = grind (arith, nat_tests) in
      let e : (c == 93) ≡ false = grind (arith, nat_tests) in
      let f : (c == 125) ≡ false = grind (arith, nat_tests) in
      let g : (c == 44) ≡ false = grind (arith, nat_tests) in
      rw (a, b, d, e, f, g) refl

  each : (m : ℕ) → is_plain (glyph m) ≡ true
  each m = plain (glyph m) (omega (arith, glyph_is m)) (omega (arith, glyph_is m))

pub decimal_closed : (n : ℕ) → IsClosed (decimal n)
decimal_closed n = plain_closed _ (λ e. let ends = decimal_ends n in not_empty _ _ (sym e ∙ ends.is)) (decimal_plain n)

-- short numbers are determined by their decimals
pub short_once : (m n : ℕ) → IsShort m → IsShort n → decimal m ≡ decimal n → m ≡ n
short_once m n p q e = sym (decimal_is_IsNumeral_wide m p).1 ∙ ap (digits_value 10) e ∙ (decimal_is_IsNumeral_wide n q).1

-- ---- octets

pub digits_lack : (mark : ℕ) → mark < 48 → (word : List ℕ) → list_all is_upper_digit word ≡ true → Lacks mark word
digits_lack mark low [] h = All-nil (λ x. (x == mark) ≡ false)
digits_lack mark low (c ∷ word) h = by (λ k. digits_lack mark low word k) (is_upper_digit c) refl h where
  digit_apart : (d : ℕ) → is_upper_digit d ≡ true → (d == mark) ≡ false
  digit_apart d e = grind (arith, nat_tests)

  by : (list_all is_upper_digit word ≡ true → Lacks mark word) → (b : Bool) → is_upper_digit c ≡ b → list_all is_upper_digit (c ∷ word) ≡ true → Lacks mark (c ∷ word)
  by more true e all = All-cons (λ x. (x == mark) ≡ false) c word (digit_apart c e) (more (rw e at all))
  by more false e all = absurd (let bad : false ≡ true = rw e at all in cc)

pub octets_lack : (mark : ℕ) → mark < 48 → (bits : List Bool) → Lacks mark (encode_upper (octets_of bits))
octets_lack mark low bits = digits_lack mark low _ (spelled_digits _ (octets_are_small bits))

octets_count : (bits : List Bool) → 8 * length (octets_of bits) ≡ length bits + spare_bits (length bits)
octets_count bits = sym (length-bits_of _) ∙ ap length (bits_again bits) ∙ length-append bits (replicate (spare_bits (length bits)) false) ∙ ap (λ (n : ℕ). length bits + n) (length-replicate (spare_bits (length bits)) false)

octets_same : (a b : List Bool) → encode_upper (octets_of a) ≡ encode_upper (octets_of b) → octets_of a ≡ octets_of b
octets_same a b e =
    let read : Ok (octets_of a) ≡ Ok (octets_of b) = sym (decode_of-encode_upper (octets_of a) (octets_are_small a)) ∙ ap decode_of e ∙ decode_of-encode_upper (octets_of b) (octets_are_small b) in
    cc

length_same : (a b : List Bool) → decimal (length a) ≡ decimal (length b) → encode_upper (octets_of a) ≡ encode_upper (octets_of b) → length a ≡ length b
length_same a b size e =
    let n : ℕ = length (octets_of a) in
    let one : 8 * n ≡ length a + spare_bits (length a) = octets_count a in
    let other : 8 * n ≡ length b + spare_bits (length b) = ap (λ (os : List ℕ). 8 * length os) (octets_same a b e) ∙ octets_count b in
    let last : length a % 10 ≡ length b % 10 = last_digit _ _ size in
    omega (arith, one, other, last)

-- how many bits there are, and their octets
pub sized_once : (a b : List Bool) → decimal (length a) ≡ decimal (length b) → encode_upper (octets_of a) ≡ encode_upper (octets_of b) → a ≡ b
sized_once a b size e = text_once a b (length_same a b size e) (same_text a b (length_same a b size e) e) where
  same_text : (xs ys : List Bool) → length xs ≡ length ys → encode_upper (octets_of xs) ≡ encode_upper (octets_of ys) → octets_text xs ≡ octets_text ys
  same_text [] [] long is = refl
  same_text [] (y ∷ ys) long is = absurd (omega (arith, long))
  same_text (x ∷ xs) [] long is = absurd (omega (arith, long))
  same_text (x ∷ xs) (y ∷ ys) long is = is
