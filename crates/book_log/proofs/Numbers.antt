-- Numbers of up to 128 bits as words.
use Rattle.book_log.proofs.Common.{false≢true, All-nil, All-cons, decimal, All, ReadsAs, begins_wrong}
use Rattle.std.proofs.Common.{◌≡◌, ◌≢◌, ℕ, ◌<◌, ◌≤◌, ◌+◌, ◌*◌, ◌/◌, ◌%◌, ◌^◌, ◌==◌, true, false, List, [], ◌∷◌, ◌++◌, get_or, Result, Ok, Err, refl, sym, ap, ◌∙◌, subst, arith, zero, suc, lit<, length, append-nil, append_assoc, length-append}
use Rattle.std.specs.Str.Parse.{ParsesUnsigned, AllDigits, digits_value, digits_value_after}
use Rattle.std.proofs.lemmas.Bool.Decides.{nat_tests}
use Rattle.std.proofs.lemmas.Fmt.{IsAscii-decimal_wide, decimal_digit, decimal_is_IsNumeral_wide, decimal_by_steps_wide, decimal_step_wide, parse-decimal_wide}
use Rattle.std.proofs.lemmas.List.{get_or_append_left}
use Rattle.std.proofs.lemmas.Str.{IsUtf8-from_ascii, digit_value_digit}
use Rattle.std.proofs.lemmas.Str.Parse.{IsNumeralModel, numerals_by_value, tells_digits, parse_plain, digit_from_value}
use Rattle.std.specs.Result.{OkIff, result_ok}
use Rattle.std.specs.Str.{IsUtf8}
use Rattle.std.specs.Char.{digit_value}
use Rattle.book_log.proofs.Cuts.{IsWord}

wide : (n : ℕ) → n < 2 ^ 128 → n < 10 ^ 64
wide n h = omega (arith, h)

own : IsNumeralModel (AllDigits 10) (digits_value 10)
own = numerals_by_value (AllDigits 10) tells_digits

pub decimal_once : (m n : ℕ) → m < 2 ^ 128 → n < 2 ^ 128 → decimal m ≡ decimal n → m ≡ n
decimal_once m n p q e = sym (decimal_is_IsNumeral_wide m (wide m p)).1 ∙ ap (digits_value 10) e ∙ (decimal_is_IsNumeral_wide n (wide n q)).1

-- ---- a word that begins like a number

right_first : (ds : List ℕ) → 48 < get_or ds 0 0 → begins_wrong ds ≡ false
right_first [] h = absurd (omega (arith, h))
right_first (c ∷ cs) h = grind (arith, nat_tests)

first_wide : (n : ℕ) → 0 < n → n < 10 ^ 64 → 48 < get_or (decimal n) 0 0
first_wide n some small = (decimal_by_steps_wide (λ m ds. (0 < length ds) × (0 < m → 48 < get_or ds 0 0)) (λ m l. (omega arith, λ a. omega arith))
    (λ m ds l h. (omega (arith, length-append ds ((48 + m % 10) ∷ [])), λ a. omega (arith, get_or_append_left ds ((48 + m % 10) ∷ []) 0 0 h.0, h.1 (omega arith)))) n small).1 some

begins_wrong-wide : (n : ℕ) → n < 10 ^ 64 → begins_wrong (decimal n) ≡ false
begins_wrong-wide zero h = rw (decimal_digit 0 (lit< tt)) refl
begins_wrong-wide (suc n) h = right_first (decimal (suc n)) (first_wide (suc n) (omega arith) h)

plus_is_wrong : (bs : List ℕ) → begins_wrong bs ≡ false → get_or bs 0 0 ≢ 43
plus_is_wrong [] h e = absurd (omega (arith, e))
plus_is_wrong (c ∷ cs) h e = grind (arith, nat_tests)

zero_is_wrong : (bs : List ℕ) → begins_wrong bs ≡ false → get_or bs 0 0 ≡ 48 → length bs ≡ 1
zero_is_wrong [] h e = absurd (omega (arith, e))
zero_is_wrong (c ∷ cs) h e = grind (arith, nat_tests)

-- ---- the text of a number's digits

le_value_after : (n : ℕ) (ds : List ℕ) → n ≤ digits_value_after 10 n ds
le_value_after n [] = omega arith
le_value_after n (c ∷ cs) = omega (arith, le_value_after (n * 10 + digit_value c) cs)

value_after : (n : ℕ) (ds : List ℕ) → 0 < n → AllDigits 10 ds → digits_value_after 10 n ds < 10 ^ 64 → decimal (digits_value_after 10 n ds) ≡ decimal n ++ ds
value_after n [] some d small = sym (append-nil (decimal n))
value_after n (c ∷ cs) some d small =
    let m : ℕ = n * 10 + digit_value c in
    let k = digit_value_digit c (digit_from_value c d.0) in
    let front : m / 10 ≡ n = omega (arith, d.0) in
    let end : 48 + m % 10 ≡ c = omega (arith, d.0) in
    value_after m cs (omega arith) d.1 small
    ∙ ap (λ x. x ++ cs) (decimal_step_wide m (omega arith) (omega (arith, le_value_after m cs)) ∙ (λ i. decimal (front i) ++ (end i ∷ [])))
    ∙ append_assoc (decimal n) (c ∷ []) cs

value_digits : (ds : List ℕ) → AllDigits 10 ds → 0 < length ds → (get_or ds 0 0 ≡ 48 → length ds ≡ 1) → digits_value 10 ds < 10 ^ 64 → decimal (digits_value 10 ds) ≡ ds
value_digits [] d some lead small = absurd (omega arith)
value_digits (c ∷ []) d some lead small =
    let k = digit_value_digit c (digit_from_value c d.0) in
    decimal_digit (0 * 10 + digit_value c) (omega (arith, d.0)) ∙ ap (λ x. x ∷ []) (omega arith)
value_digits (c ∷ e ∷ cs) d some lead small =
    let k = digit_value_digit c (digit_from_value c d.0) in
    let no : c ≡ 48 → ⊥ = λ z. omega (arith, lead z) in
    let is : 48 + (0 * 10 + digit_value c) ≡ c = omega arith in
    value_after (0 * 10 + digit_value c) (e ∷ cs) (omega arith) d.1 small
    ∙ ap (λ x. x ++ (e ∷ cs)) (decimal_digit (0 * 10 + digit_value c) (omega (arith, d.0)) ∙ ap (λ x. x ∷ []) is)

-- ---- reading

-- a word that is no number by its first octet, or no text, is no number
pub wrong_is_none : (bs : List ℕ) → begins_wrong bs ≡ true → (n : ℕ) → n < 2 ^ 128 → bs ≢ decimal n
wrong_is_none bs wrong n small e =
    let right : begins_wrong bs ≡ false = ap begins_wrong e ∙ begins_wrong-wide n (wide n small) in
    false≢true (sym right ∙ wrong)

pub no_text_is_none : (bs : List ℕ) → ¬ (IsUtf8 bs) → (n : ℕ) → n < 2 ^ 128 → bs ≢ decimal n
no_text_is_none bs bad n small e = bad (subst IsUtf8 (sym e) (IsUtf8-from_ascii (decimal n) (IsAscii-decimal_wide n (wide n small))))

-- a text that begins like a number is read as the number that is written so, and as none where there is none
pub parsed_as : {E : Type 0} (bs : List ℕ) (r : Result ℕ E) → begins_wrong bs ≡ false → ParsesUnsigned 128 10 bs r → ReadsAs decimal (λ n. n < 2 ^ 128) bs (result_ok r)
parsed_as {E} bs (Ok n) right parses =
    let read : OkIff {T = ℕ} {E = E} (Ok n) (AllDigits 10 bs × (0 < length bs) × (digits_value 10 bs < 2 ^ 128)) (digits_value 10 bs) = parse_plain own {E = E} 128 bs (Ok n) parses (plus_is_wrong bs right) in
    let small : digits_value 10 bs < 2 ^ 128 = read.0.2 in
    let written : decimal (digits_value 10 bs) ≡ bs = value_digits bs read.0.0 read.0.1 (zero_is_wrong bs right) (wide (digits_value 10 bs) small) in
    (sym written ∙ ap decimal (sym read.1), rw read.1 small)
parsed_as {E} bs (Err e) right parses = λ n small is.
    let read : Err e ≡ Ok n = parse-decimal_wide 128 n bs (Err e) small (wide n small) is parses in
    cc

-- ---- no mark is a digit

unmarked : (mark : ℕ) (ds : List ℕ) → mark < 48 → AllDigits 10 ds → All (λ x. (x == mark) ≡ false) ds
unmarked mark [] low h = All-nil _
unmarked mark (d ∷ ds) low h =
    let range = digit_from_value d h.0 in
    let apart : (d == mark) ≡ false = grind (arith, nat_tests) in
    All-cons (λ x. (x == mark) ≡ false) d ds apart (unmarked mark ds low h.1)

pub number_word : (n : ℕ) → n < 2 ^ 128 → IsWord (decimal n)
number_word n small =
    let digits = (decimal_is_IsNumeral_wide n (wide n small)).0.1 in
    record { spaces = unmarked 32 (decimal n) (lit< tt) digits; ends = unmarked 10 (decimal n) (lit< tt) digits }

-- ---- a number of fewer bits

-- a number of 128 bits as one of 64
pub fewer : {E : Type 0} (bs : List ℕ) (n : ℕ) (r : Result ℕ E) → bs ≡ decimal n → n < 2 ^ 128 → OkIff r (n < 2 ^ 64) n → ReadsAs decimal (λ x. x < 2 ^ 64) bs (result_ok r)
fewer bs n (Ok m) is small tells = (is ∙ ap decimal (sym tells.1), rw tells.1 tells.0)
fewer bs n (Err e) is small tells = λ x low same.
    let one : n ≡ x = decimal_once n x small (omega arith) (sym is ∙ same) in
    tells (rw one low)
