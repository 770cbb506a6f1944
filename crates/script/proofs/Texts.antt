-- Texts of messages as words.
use Rattle.script.proofs.Common.{All-head, All-tail, false≢true, All, list_all}
use Rattle.std.proofs.Common.{◌≡◌, ◌≢◌, ℕ, ◌<◌, ◌≤◌, ◌+◌, ◌*◌, ◌%◌, Bool, true, false, List, [], ◌∷◌, ◌++◌, length, take, replicate, get_or, subst, Result, Ok, refl, sym, ap, ◌∙◌, arith, length-append, lit<, zero, suc, IfErr, Err}
use Rattle.std.proofs.lemmas.List.{take_at, length-take-le, length-replicate}
use Rattle.std.proofs.lemmas.Grind.{get_or_default_zero}
use Rattle.hex.specs.Hex.{encode_upper, upper_digits, decode_of, is_hex_digit, IsBytes}
use Rattle.hex.proofs.HexLemmas.{decode_of-digits, decode_of-encode_upper, length-encode_with}
use Rattle.bit_messages.specs.Octets.{octets_of, bits_of, spare_bits}
use Rattle.bit_messages.proofs.lemmas.{bits_again, length-bits_of, octets_below, packs_octets}
use Rattle.bit_messages.specs.Packed.{Packs}
use Rattle.script.specs.Spelling.{octets_text, IsHex, is_upper_digit, IsTextWord, IsWordOfText}
use Rattle.script.proofs.Digits.{IsSpelled, spelled_octets, spelled_digits, spelled_even, upper_are_digits, digits_small}
use Rattle.std.proofs.lemmas.List.Sums.{AllPass-from_list_all}

-- the first bits of a text's octets are the text
pub text_again : (text : List Bool) → take (length text) (bits_of (octets_of text)) ≡ text
text_again text = ap (take (length text)) (bits_again text) ∙ take_at text (replicate (spare_bits (length text)) false) (length text) refl

-- and there are enough of them
enough_octets : (text : List Bool) → length text ≤ 8 * length (octets_of text)
enough_octets text =
    let all : 8 * length (octets_of text) ≡ length text + length (replicate (spare_bits (length text)) false) = sym (length-bits_of (octets_of text)) ∙ ap length (bits_again text) ∙ length-append text _ in
    omega arith

spelled_text : (text : List Bool) → 0 < length text → octets_text text ≡ encode_upper (octets_of text)
spelled_text [] some = absurd (omega arith)
spelled_text (b ∷ bits) some = refl

ok_same : {X E : Type 0} (x y : X) (r : Result X E) → r ≡ Ok x → r ≡ Ok y → x ≡ y
ok_same x y r a b = cc

small_from : (xs : List ℕ) → All (λ n. n < 256) xs → IsBytes xs
small_from [] h i = lit< tt
small_from (x ∷ xs) h zero = All-head (λ n. n < 256) x xs h
small_from (x ∷ xs) h (suc i) = small_from xs (All-tail (λ n. n < 256) x xs h) i

pub octets_are_small : (x : List Bool) → IsBytes (octets_of x)
octets_are_small x = small_from (octets_of x) (octets_below x)

-- a word that is no hexadecimal is no text's
pub no_octets : (word : List ℕ) (count : ℕ) → 0 < count → ((e : List ℕ) → IsBytes e → word ≢ encode_upper e) → (x : List Bool) → length x ≡ count → word ≢ octets_text x
no_octets word count some none x long e = none (octets_of x) (octets_are_small x) (e ∙ spelled_text x (omega arith))

-- the octets that a word spells
same_octets : (word octets : List ℕ) (x : List Bool) → 0 < length x → decode_of word ≡ Ok octets → word ≡ octets_text x → octets ≡ octets_of x
same_octets word octets x some read e =
    ok_same octets (octets_of x) (decode_of word) read (ap decode_of (e ∙ spelled_text x some) ∙ decode_of-encode_upper (octets_of x) (octets_are_small x))

pub too_few : (word octets : List ℕ) (count : ℕ) → 0 < count → decode_of word ≡ Ok octets → 8 * length octets < count → (x : List Bool) → length x ≡ count → word ≢ octets_text x
too_few word octets count some read few x long e =
    let same : octets ≡ octets_of x = same_octets word octets x (omega arith) read e in
    let enough : length x ≤ 8 * length (octets_of x) = enough_octets x in
    let counted : length octets ≡ length (octets_of x) = ap length same in
    absurd (omega arith)

pub other_case : (word octets : List ℕ) (bits : List Bool) (count : ℕ) → 0 < count → decode_of word ≡ Ok octets → bits ≡ take count (bits_of octets) → (octets_of bits ≢ octets) → (x : List Bool) → length x ≡ count → word ≢ octets_text x
other_case word octets bits count some read first differs x long e =
    let same : octets ≡ octets_of x = same_octets word octets x (omega arith) read e in
    let whole : bits ≡ x = first ∙ ap (λ n. take n (bits_of octets)) (sym long) ∙ ap (λ os. take (length x) (bits_of os)) same ∙ text_again x in
    differs (ap octets_of whole ∙ sym same)

-- bits whose octets a word spells
pub record Spelled (word : List ℕ) (count : ℕ) (bits : List Bool) : Type 0 where
  pub long : length bits ≡ count
  pub text : word ≡ octets_text bits

pub this_case : (word octets : List ℕ) (bits : List Bool) (count : ℕ) → 0 < count → count ≤ 8 * length octets → bits ≡ take count (bits_of octets) → octets_of bits ≡ octets → word ≡ encode_upper octets → Spelled word count bits
this_case word octets bits count some enough first same spelled =
    let all : length (bits_of octets) ≡ 8 * length octets = length-bits_of octets in
    let long : length bits ≡ count = ap length first ∙ length-take-le count (bits_of octets) (omega arith) in
    record { long = long; text = spelled ∙ ap encode_upper (sym same) ∙ sym (spelled_text bits (omega arith)) }

pub on_error : {T E : Type 0} (P : Type 0) (r : Result T E) → P → IfErr r (λ _. P)
on_error P (Ok x) p = tt
on_error P (Err e) p = p

-- an even number of upper case digits decodes
pub upper_hex : (word : List ℕ) → length word % 2 ≡ 0 → list_all is_upper_digit word ≡ true → IsHex word
upper_hex word even digits = decode_of-digits word even (AllPass-from_list_all is_hex_digit word (upper_are_digits word digits))

-- and decodes to what spells it
pub decoded : (word octets : List ℕ) → list_all is_upper_digit word ≡ true → word ≡ encode_upper octets → decode_of word ≡ Ok octets
decoded word octets digits spelled = ap decode_of spelled ∙ decode_of-encode_upper octets (digits_small octets (sym (ap (list_all is_upper_digit) spelled) ∙ digits))

-- a word of an odd length, or with another octet, is none that was written
pub odd_length : (word : List ℕ) → (length word % 2 ≡ 0 → ⊥) → (e : List ℕ) → IsBytes e → word ≢ encode_upper e
odd_length word odd e small is = odd (ap (λ w. length w % 2) is ∙ spelled_even e)

pub other_octet : (word : List ℕ) → list_all is_upper_digit word ≡ false → (e : List ℕ) → IsBytes e → word ≢ encode_upper e
other_octet word other e small is = false≢true (sym other ∙ ap (list_all is_upper_digit) is ∙ spelled_digits e small)

-- ---- which words are texts

small_below : (octets : List ℕ) → IsBytes octets → All (λ n. n < 256) octets
small_below octets small = λ k d there. (let read : get_or octets k d ≡ get_or octets k 0 = get_or_default_zero octets k d there in let here : get_or octets k 0 < 256 = small k in omega arith)

pub word_of_text : (word : List ℕ) (count : ℕ) → 0 < count → IsTextWord word count → IsWordOfText word count
word_of_text word count some is =
    let s : IsSpelled word = spelled_octets word (omega (arith, is.size)) is.digits in
    let read : decode_of word ≡ Ok s.octets = ap decode_of s.spelled ∙ decode_of-encode_upper s.octets s.small in
    let size : length word ≡ 2 * length s.octets = ap length s.spelled ∙ length-encode_with upper_digits s.octets in
    let all : length (bits_of s.octets) ≡ 8 * length s.octets = length-bits_of s.octets in
    let long : length (take count (bits_of s.octets)) ≡ count = length-take-le count (bits_of s.octets) (omega (arith, is.size)) in
    let packs : Packs s.octets (take count (bits_of s.octets)) = record { zeros = spare_bits count; same = is.unused s.octets read; few = omega arith } in
    let same : s.octets ≡ octets_of (take count (bits_of s.octets)) = packs_octets s.octets (take count (bits_of s.octets)) (small_below s.octets s.small) packs in
    record {
      text = take count (bits_of s.octets);
      long = long;
      spelled = s.spelled ∙ ap encode_upper same ∙ sym (spelled_text (take count (bits_of s.octets)) (omega arith));
    }

pub text_word : (word : List ℕ) (count : ℕ) → 0 < count → IsWordOfText word count → IsTextWord word count
text_word word count some is =
    let octets : List ℕ = octets_of is.text in
    let spelled : word ≡ encode_upper octets = is.spelled ∙ spelled_text is.text (omega (arith, is.long)) in
    let size : length word ≡ 2 * length octets = ap length spelled ∙ length-encode_with upper_digits octets in
    let spare : spare_bits (length is.text) ≡ spare_bits count = ap spare_bits is.long in
    let all : 8 * length octets ≡ length is.text + length (replicate (spare_bits (length is.text)) false) = sym (length-bits_of octets) ∙ ap length (bits_again is.text) ∙ length-append is.text _ in
    let zeros : length (replicate (spare_bits (length is.text)) false) ≡ spare_bits (length is.text) = length-replicate (spare_bits (length is.text)) false in
    let P : List ℕ → Type 0 = λ os. bits_of os ≡ take count (bits_of os) ++ replicate (spare_bits count) false in
    let own : bits_of octets ≡ take count (bits_of octets) ++ replicate (spare_bits count) false =
    bits_again is.text ∙ ap (λ n. is.text ++ replicate n false) spare ∙ ap (λ bs. bs ++ replicate (spare_bits count) false) (sym (ap (λ n. take n (bits_of octets)) (sym is.long) ∙ text_again is.text)) in
    record {
      digits = ap (list_all is_upper_digit) spelled ∙ spelled_digits octets (octets_are_small is.text);
      size = omega (arith, is.long);
      unused = λ read reads. subst P (ok_same octets read (decode_of word) (ap decode_of spelled ∙ decode_of-encode_upper octets (octets_are_small is.text)) reads) own;
    }
