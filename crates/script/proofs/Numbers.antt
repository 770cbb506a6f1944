-- Numbers as words: what `decimal` writes, and what `parse` reads of it.
use Rattle.script.proofs.Common.{nat_tests, digit_value_digit, digit_value, decimal, IsInRange, All, All-nil, All-cons, false≢true, begins_wrong}
use Rattle.std.proofs.Common.{◌≡◌, ◌≢◌, ℕ, ◌+◌, ◌-◌, ◌*◌, ◌<◌, ◌≤◌, ◌^◌, ◌==◌, true, false, List, [], ◌∷◌, Option, Some, None, MatchOption, get_or, drop, refl, sym, ap, ◌∙◌, subst, arith, zero, suc, lit<, length}
use Rattle.std.proofs.lemmas.Fmt.{decimal_is_IsNumeral, decimal_digit, decimal_injective, decimal-digits_value, first_decimal, length-decimal-le}
use Rattle.std.proofs.lemmas.List.{drop_more, drop_all}
use Rattle.std.proofs.lemmas.Str.Parse.{IsNumeralModel, numerals_by_value, tells_digits, digit_from_value}
use Rattle.std.specs.Str.Parse.{AllDigits, digits_value, digits_value_after}
use Rattle.script.specs.Spelling.{ReadsAs}

own : IsNumeralModel (AllDigits 10) (digits_value 10)
own = numerals_by_value (AllDigits 10) tells_digits

right_first : (ds : List ℕ) → 48 < get_or ds 0 0 → begins_wrong ds ≡ false
right_first [] h = absurd (omega (arith, h))
right_first (c ∷ cs) h = grind (arith, nat_tests)

-- what `decimal` writes begins like a number
pub begins_wrong-decimal : (n : ℕ) → n < 2 ^ 64 → begins_wrong (decimal n) ≡ false
begins_wrong-decimal zero h = rw (decimal_digit 0 (lit< tt)) refl
begins_wrong-decimal (suc n) h = right_first (decimal (suc n)) (first_decimal (suc n) (omega arith) h)

plus_is_wrong : (bs : List ℕ) → begins_wrong bs ≡ false → get_or bs 0 0 ≢ 43
plus_is_wrong [] h e = absurd (omega (arith, e))
plus_is_wrong (c ∷ cs) h e = grind (arith, nat_tests)

some_octet : (bs : List ℕ) → begins_wrong bs ≡ false → 0 < length bs
some_octet [] right = absurd (false≢true (sym right))
some_octet (c ∷ cs) right = omega arith

zero_is_wrong : (bs : List ℕ) → begins_wrong bs ≡ false → get_or bs 0 0 ≡ 48 → length bs ≡ 1
zero_is_wrong [] h e = absurd (omega (arith, e))
zero_is_wrong (c ∷ cs) h e = grind (arith, nat_tests)

-- a word that is no number by its first octet is no number
pub wrong_is_none : (bs : List ℕ) → begins_wrong bs ≡ true → (n : ℕ) → n < 2 ^ 32 → bs ≢ decimal n
wrong_is_none bs wrong n small e =
    let right : begins_wrong bs ≡ false = ap begins_wrong e ∙ begins_wrong-decimal n (omega arith) in
    false≢true (sym right ∙ wrong)

-- a word of more than ten octets is no number of 32 bits
pub long_is_none : (bs : List ℕ) → 10 < length bs → (n : ℕ) → n < 2 ^ 32 → bs ≢ decimal n
long_is_none bs long n small e =
    let short : length (decimal n) ≤ 10 = length-decimal-le 10 n (lit< tt) (omega arith) (omega arith) in
    absurd (omega (arith, ap length e))

-- a word that begins like a number, and spells none by its digits, is no number
bad_is_none : (bs : List ℕ) → (AllDigits 10 bs → 2 ^ 32 ≤ digits_value 10 bs) → (n : ℕ) → n < 2 ^ 32 → bs ≢ decimal n
bad_is_none bs bad n small e =
    let numeral = decimal_is_IsNumeral n (omega arith) in
    let large : 2 ^ 32 ≤ digits_value 10 (decimal n) = subst (λ ds. AllDigits 10 ds → 2 ^ 32 ≤ digits_value 10 ds) e bad numeral.0.1 in
    absurd (omega (arith, numeral.1, large))

-- digits that begin like a number spell the number that is written so
pub spelled_as : (bs : List ℕ) (n : ℕ) → begins_wrong bs ≡ false → AllDigits 10 bs → n ≡ digits_value 10 bs → n < 2 ^ 32 → bs ≡ decimal n
spelled_as bs n right digits is small =
    sym (decimal-digits_value own bs digits (some_octet bs right) (zero_is_wrong bs right) (omega (arith, is))) ∙ ap decimal (sym is)

pub number_read : (bs : List ℕ) (read : Option ℕ) → begins_wrong bs ≡ false
    → MatchOption read (AllDigits 10 bs → 2 ^ 32 ≤ digits_value 10 bs) (λ n. AllDigits 10 bs × (n ≡ digits_value 10 bs) × (n < 2 ^ 32)) → ReadsAs decimal (λ n. n < 2 ^ 32) bs read
number_read bs (Some n) right h = (spelled_as bs n right h.0 h.1 h.2, h.2)
number_read bs None right h = bad_is_none bs h

-- ---- digits, read from the first to the last

-- of the digits `all`, those before `rest` spell n
pub record SoFar (all rest : List ℕ) (n : ℕ) : Type 0 where
  pub same : digits_value_after 10 n rest ≡ digits_value 10 all
  pub back : AllDigits 10 rest → AllDigits 10 all
  pub on : AllDigits 10 all → AllDigits 10 rest

pub begun : (all : List ℕ) → SoFar all all 0
begun all = record { same = refl; back = λ h. h; on = λ h. h }

module _ (all : List ℕ) (i n : ℕ) (so_far : SoFar all (drop i all) n) where
  module _ (lt : i < length all) where
    opened : SoFar all (get_or all i 0 ∷ drop (i + 1) all) n
    opened = subst (λ ds. SoFar all ds n) (drop_more all i 0 lt) so_far

    -- one more digit
    pub one_more : (m : ℕ) → IsInRange 48 57 (get_or all i 0) → m ≡ n * 10 + (get_or all i 0 - 48) → SoFar all (drop (i + 1) all) m
    one_more m range is =
        let digit : digit_value (get_or all i 0) + 48 ≡ get_or all i 0 = digit_value_digit (get_or all i 0) range in
        let next : m ≡ n * 10 + digit_value (get_or all i 0) = omega (arith, digit, is) in
        record {
          same = ap (λ k. digits_value_after 10 k (drop (i + 1) all)) next ∙ opened.same;
          back = λ rest. opened.back (omega (arith, digit, range), rest);
          on = λ digits. (opened.on digits).1;
        }

  pub all_read : length all ≤ i → AllDigits 10 all × (n ≡ digits_value 10 all)
  all_read end =
      let whole : SoFar all [] n = subst (λ ds. SoFar all ds n) (drop_all i all end) so_far in
      (whole.back tt, whole.same)

-- digits have no mark below them
All-unmarked_digits : (mark : ℕ) (ds : List ℕ) → mark < 48 → AllDigits 10 ds → All (λ x. (x == mark) ≡ false) ds
All-unmarked_digits mark [] low h = All-nil _
All-unmarked_digits mark (d ∷ ds) low h =
    let range = digit_from_value d h.0 in
    let apart : (d == mark) ≡ false = grind (arith, nat_tests) in
    All-cons (λ x. (x == mark) ≡ false) d ds apart (All-unmarked_digits mark ds low h.1)

pub All-unmarked_decimal : (mark n : ℕ) → mark < 48 → n < 2 ^ 64 → All (λ x. (x == mark) ≡ false) (decimal n)
All-unmarked_decimal mark n low h = All-unmarked_digits mark (decimal n) low (decimal_is_IsNumeral n h).0.1

-- a number past the bound is none of those up to it
pub past_is_none : (bs : List ℕ) (limit n : ℕ) → n < 2 ^ 32 → limit < n → bs ≡ decimal n → (x : ℕ) → x ≤ limit → bs ≢ decimal x
past_is_none bs limit n small past is x low e =
    let same : n ≡ x = decimal_injective n x (omega arith) (omega arith) (sym is ∙ e) in
    absurd (omega arith)
