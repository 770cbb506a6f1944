-- Upper case hexadecimal digits.
use Rattle.script.proofs.Common.{list_all, is_upper_digit}
use Rattle.std.proofs.Common.{◌≡◌, ℕ, ◌<◌, ◌≤◌, ◌+◌, ◌-◌, ◌*◌, ◌/◌, ◌%◌, ◌&&◌, nat_le, true, List, [], ◌∷◌, ◌++◌, length, take, slice_index, slice_set, is_some, refl, sym, ap, ◌∙◌, arith, zero, suc, inl, inr}
use Rattle.std.proofs.lemmas.Bool.{or_cases, and_parts, leb-true, cases_lt, false≢true}
use Rattle.std.proofs.lemmas.List.{take_more, take_more_set, append_assoc, get_or_past}
use Rattle.hex.specs.Hex.{encode_upper, encode_with, upper_digits, is_hex_digit, IsBytes}
use Rattle.hex.proofs.HexLemmas.{IsDigits-upper_digits, length-encode_with}

-- the digits in their order
pub record IsUpperAt (c : ℕ) : Type 0 where
  pub place : ℕ
  pub below : place < 16
  pub same : c ≡ slice_index upper_digits place

digit_at : (k : ℕ) → k < 10 → slice_index upper_digits k ≡ k + 48
digit_at zero h = refl
digit_at (suc zero) h = refl
digit_at (suc (suc zero)) h = refl
digit_at (suc (suc (suc zero))) h = refl
digit_at (suc (suc (suc (suc zero)))) h = refl
digit_at (suc (suc (suc (suc (suc zero))))) h = refl
digit_at (suc (suc (suc (suc (suc (suc zero)))))) h = refl
digit_at (suc (suc (suc (suc (suc (suc (suc zero))))))) h = refl
digit_at (suc (suc (suc (suc (suc (suc (suc (suc zero)))))))) h = refl
digit_at (suc (suc (suc (suc (suc (suc (suc (suc (suc zero))))))))) h = refl
digit_at (suc (suc (suc (suc (suc (suc (suc (suc (suc (suc k)))))))))) h = absurd (omega arith)

letter_at : (k : ℕ) → k < 6 → slice_index upper_digits (k + 10) ≡ k + 65
letter_at zero h = refl
letter_at (suc zero) h = refl
letter_at (suc (suc zero)) h = refl
letter_at (suc (suc (suc zero))) h = refl
letter_at (suc (suc (suc (suc zero)))) h = refl
letter_at (suc (suc (suc (suc (suc zero))))) h = refl
letter_at (suc (suc (suc (suc (suc (suc k)))))) h = absurd (omega arith)

upper_at : (c : ℕ) → is_upper_digit c ≡ true → IsUpperAt c
upper_at c is = elim (or_cases (nat_le 48 c && nat_le c 57) (nat_le 65 c && nat_le c 70) is) [
  | inl digit ↦
      let both : (nat_le 48 c ≡ true) × (nat_le c 57 ≡ true) = and_parts (nat_le 48 c) (nat_le c 57) digit in
      let low : 48 ≤ c = leb-true 48 c both.0 in
      let high : c ≤ 57 = leb-true c 57 both.1 in
      let back : c - 48 + 48 ≡ c = omega arith in
      record { place = c - 48; below = omega arith; same = sym (digit_at (c - 48) (omega arith) ∙ back) }
  | inr letter ↦
      let both : (nat_le 65 c ≡ true) × (nat_le c 70 ≡ true) = and_parts (nat_le 65 c) (nat_le c 70) letter in
      let low : 65 ≤ c = leb-true 65 c both.0 in
      let high : c ≤ 70 = leb-true c 70 both.1 in
      let back : c - 65 + 65 ≡ c = omega arith in
      record { place = c - 65 + 10; below = omega arith; same = sym (letter_at (c - 65) (omega arith) ∙ back) }
]

-- each of the sixteen is one
at_upper : (k : ℕ) → k < 16 → is_upper_digit (slice_index upper_digits k) ≡ true
at_upper zero h = refl
at_upper (suc zero) h = refl
at_upper (suc (suc zero)) h = refl
at_upper (suc (suc (suc zero))) h = refl
at_upper (suc (suc (suc (suc zero)))) h = refl
at_upper (suc (suc (suc (suc (suc zero))))) h = refl
at_upper (suc (suc (suc (suc (suc (suc zero)))))) h = refl
at_upper (suc (suc (suc (suc (suc (suc (suc zero))))))) h = refl
at_upper (suc (suc (suc (suc (suc (suc (suc (suc zero)))))))) h = refl
at_upper (suc (suc (suc (suc (suc (suc (suc (suc (suc zero))))))))) h = refl
at_upper (suc (suc (suc (suc (suc (suc (suc (suc (suc (suc zero)))))))))) h = refl
at_upper (suc (suc (suc (suc (suc (suc (suc (suc (suc (suc (suc zero))))))))))) h = refl
at_upper (suc (suc (suc (suc (suc (suc (suc (suc (suc (suc (suc (suc zero)))))))))))) h = refl
at_upper (suc (suc (suc (suc (suc (suc (suc (suc (suc (suc (suc (suc (suc zero))))))))))))) h = refl
at_upper (suc (suc (suc (suc (suc (suc (suc (suc (suc (suc (suc (suc (suc (suc zero)))))))))))))) h = refl
at_upper (suc (suc (suc (suc (suc (suc (suc (suc (suc (suc (suc (suc (suc (suc (suc zero))))))))))))))) h = refl
at_upper (suc (suc (suc (suc (suc (suc (suc (suc (suc (suc (suc (suc (suc (suc (suc (suc k)))))))))))))))) h = absurd (omega arith)

-- an upper case digit is one in either case
upper_is_digit : (c : ℕ) → is_upper_digit c ≡ true → is_hex_digit c ≡ true
upper_is_digit c is =
    let at : IsUpperAt c = upper_at c is in
    ap is_hex_digit at.same ∙ ap is_some (IsDigits-upper_digits at.place at.below)

pub upper_are_digits : (word : List ℕ) → list_all is_upper_digit word ≡ true → list_all is_hex_digit word ≡ true
upper_are_digits [] is = refl
upper_are_digits (c ∷ word) is =
    let both = and_parts (is_upper_digit c) (list_all is_upper_digit word) is in
    rw (upper_is_digit c both.0) (upper_are_digits word both.1)

-- octets that are spelled
pub record IsSpelled (word : List ℕ) : Type 0 where
  pub octets : List ℕ
  pub small : IsBytes octets
  pub spelled : word ≡ encode_upper octets

small_more : (b : ℕ) (rest : List ℕ) → b < 256 → IsBytes rest → IsBytes (b ∷ rest)
small_more b rest h hs zero = h
small_more b rest h hs (suc i) = hs i

-- an even number of upper case digits spells octets
pub spelled_octets : (word : List ℕ) → length word % 2 ≡ 0 → list_all is_upper_digit word ≡ true → IsSpelled word
unfolding encode_with
spelled_octets [] even is = record { octets = []; small = λ i. omega arith; spelled = refl }
spelled_octets (a ∷ []) even is = absurd (omega arith)
spelled_octets (a ∷ b ∷ word) even is =
    let first = and_parts (is_upper_digit a) (list_all is_upper_digit (b ∷ word)) is in
    let second = and_parts (is_upper_digit b) (list_all is_upper_digit word) first.1 in
    let high : IsUpperAt a = upper_at a first.0 in
    let low : IsUpperAt b = upper_at b second.0 in
    let rest : IsSpelled word = spelled_octets word (omega arith) second.1 in
    let upper : high.place ≡ (16 * high.place + low.place) / 16 = omega (arith, high.below, low.below) in
    let lower : low.place ≡ (16 * high.place + low.place) % 16 = omega (arith, high.below, low.below) in
    record {
      octets = (16 * high.place + low.place) ∷ rest.octets;
      small = small_more (16 * high.place + low.place) rest.octets (omega (arith, high.below, low.below)) rest.small;
      spelled =
          (ap (λ c. c ∷ b ∷ word) (high.same ∙ ap (slice_index upper_digits) upper)
          ∙ ap (λ c. slice_index upper_digits ((16 * high.place + low.place) / 16) ∷ c ∷ word) (low.same ∙ ap (slice_index upper_digits) lower)
          ∙ ap (λ cs. slice_index upper_digits ((16 * high.place + low.place) / 16) ∷ slice_index upper_digits ((16 * high.place + low.place) % 16) ∷ cs) rest.spelled);
    }

-- octets are spelled in upper case digits, two each
pub spelled_digits : (octets : List ℕ) → IsBytes octets → list_all is_upper_digit (encode_upper octets) ≡ true
unfolding encode_with
spelled_digits [] small = refl
spelled_digits (n ∷ octets) small =
    let first : n < 256 = small 0 in
    rw (at_upper (n / 16) (omega arith), at_upper (n % 16) (omega arith)) (spelled_digits octets (λ i. small (suc i)))

pub spelled_even : (octets : List ℕ) → length (encode_upper octets) % 2 ≡ 0
spelled_even octets = let size : length (encode_upper octets) ≡ 2 * length octets = length-encode_with upper_digits octets in omega arith

-- ---- octets spelled one after another

encode_append : (xs ys : List ℕ) → encode_upper (xs ++ ys) ≡ encode_upper xs ++ encode_upper ys
unfolding encode_with
encode_append [] ys = refl
encode_append (x ∷ xs) ys = ap (λ cs. slice_index upper_digits (x / 16) ∷ slice_index upper_digits (x % 16) ∷ cs) (encode_append xs ys)

encode_one : (n high low : ℕ) → high < 16 → low < 16 → n ≡ 16 * high + low → encode_upper (n ∷ []) ≡ slice_index upper_digits high ∷ slice_index upper_digits low ∷ []
unfolding encode_with
encode_one n high low a b is =
    let upper : n / 16 ≡ high = omega arith in
    let lower : n % 16 ≡ low = omega arith in
    ap (λ (k : ℕ). slice_index upper_digits k ∷ slice_index upper_digits (n % 16) ∷ []) upper ∙ ap (λ (k : ℕ). slice_index upper_digits high ∷ slice_index upper_digits k ∷ []) lower

-- one octet more
pub spelled_more : (word octets : List ℕ) (i n high low : ℕ) → 2 * i + 1 < length word → i < length octets → high < 16 → low < 16 → n ≡ 16 * high + low
    → slice_index upper_digits high ≡ slice_index word (2 * i) → slice_index upper_digits low ≡ slice_index word (2 * i + 1)
    → encode_upper (take i octets) ≡ take (2 * i) word
    → encode_upper (take (i + 1) (slice_set octets i n)) ≡ take (2 * (i + 1)) word
spelled_more word octets i n high low there room small_high small_low is first second so_far =
    let two : 2 * (i + 1) ≡ 2 * i + 1 + 1 = omega arith in
    let one : take (2 * i + 1) word ≡ take (2 * i) word ++ slice_index word (2 * i) ∷ [] = take_more word (2 * i) 0 (omega arith) in
    let both : take (2 * i + 1 + 1) word ≡ take (2 * i + 1) word ++ slice_index word (2 * i + 1) ∷ [] = take_more word (2 * i + 1) 0 there in
    let front : List ℕ = take (2 * i) word in
    ap encode_upper (take_more_set octets i n room)
    ∙ encode_append (take i octets) (n ∷ [])
    ∙ ap (λ (cs : List ℕ). cs ++ encode_upper (n ∷ [])) so_far
    ∙ ap (λ (cs : List ℕ). front ++ cs) (encode_one n high low small_high small_low is)
    ∙ ap (λ (c : ℕ). front ++ (c ∷ slice_index upper_digits low ∷ [])) first
    ∙ ap (λ (c : ℕ). front ++ (slice_index word (2 * i) ∷ c ∷ [])) second
    ∙ sym (ap (λ (k : ℕ). take k word) two ∙ both ∙ ap (λ (cs : List ℕ). cs ++ slice_index word (2 * i + 1) ∷ []) one ∙ append_assoc front (slice_index word (2 * i) ∷ []) (slice_index word (2 * i + 1) ∷ []))

-- digits spell octets: no digit follows the sixteenth
behind_digits : (k : ℕ) → 16 ≤ k → slice_index upper_digits k ≡ 0
behind_digits k far = get_or_past upper_digits k 0 far

pub digits_small : (octets : List ℕ) → list_all is_upper_digit (encode_upper octets) ≡ true → IsBytes octets
unfolding encode_with
digits_small [] is = λ i. omega arith
digits_small (n ∷ octets) is =
    let first = and_parts (is_upper_digit (slice_index upper_digits (n / 16))) (is_upper_digit (slice_index upper_digits (n % 16)) && list_all is_upper_digit (encode_upper octets)) is in
    let second = and_parts (is_upper_digit (slice_index upper_digits (n % 16))) (list_all is_upper_digit (encode_upper octets)) first.1 in
    small_more n octets (elim (cases_lt n 256) [
      | inl small ↦ small
      | inr big ↦ absurd (false≢true (sym (ap is_upper_digit (behind_digits (n / 16) (omega arith))) ∙ first.0))
    ]) (digits_small octets second.1)
