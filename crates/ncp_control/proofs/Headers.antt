-- Headers written and read.
use Rattle.std.proofs.Common.{◌≡◌, ℕ, ◌+◌, ◌*◌, ◌/◌, ◌%◌, ◌<◌, ◌≤◌, Bool, true, false, List, [], ◌∷◌, ◌++◌, length, take, drop, get_or, Option, refl, ap, sym, ◌∙◌, arith, Some, None, unwrap_or, nat_lt, subst, if◌then◌else◌, ◌||◌, zero, suc, replicate, length-append}
use Rattle.std.proofs.lemmas.Bool.Decides.{nat_tests}
use Rattle.std.proofs.lemmas.Nat.{from_be_bytes-to_be_bytes_2}
use Rattle.std.proofs.lemmas.List.{length-drop, get_or-drop, drop-drop}
use Rattle.std.proofs.Math.Seq.{take-add}
use Rattle.std.proofs.lemmas.List.{get_or-append-add}
use Rattle.std.proofs.lemmas.Bool.{or_parts}
use Rattle.bit_messages.specs.Octets.{octet, octet_bits, octets_of, spare_bits}
use Rattle.std.specs.Int.{w16, from_be_bytes}
use Rattle.bit_messages.proofs.lemmas.{bits_again, length-bits_of, octet_again, octet_below, octet_bits_again}
use Rattle.ncp_control.specs.declared.data_header.DataHeader.{DataHeader}
use Rattle.ncp_control.specs.DataHeader.{octet_at, fields_of, data_bits, header_of, header_bits, IsHeader}

within : (n d : ℕ) (h : DataHeader) → 40 ≤ n → 40 + d ≤ n → (if nat_lt n 40 || nat_lt n (40 + d) then None else Some h) ≡ Some h
within n d h long enough =
    let is_long : nat_lt n 40 ≡ false = grind (arith, nat_tests, long) in
    let is_enough : nat_lt n (40 + d) ≡ false = grind (arith, nat_tests, enough) in
    rw (is_long, is_enough) refl

-- a text whose fields are these, followed by its data, has this header
header_of-is : (text : List Bool) (h : DataHeader) → fields_of text ≡ h → 40 + data_bits h ≤ length text → header_of text ≡ Some h
header_of-is text h fields there =
    let enough : 40 + data_bits (fields_of text) ≤ length text = subst (λ (h : DataHeader). 40 + data_bits h ≤ length text) (sym fields) there in
    within (length text) (data_bits (fields_of text)) (fields_of text) (omega (arith, there)) enough ∙ ap (λ (h : DataHeader). Some h) fields

same_count : (a b high low : ℕ) → a ≡ high → b ≡ low → from_be_bytes w16 (a ∷ b ∷ []) ≡ from_be_bytes w16 (high ∷ low ∷ [])
same_count a b high low same_high same_low = rw (same_high, same_low) refl

same_header : (a b : ℕ) (h : DataHeader) → a ≡ h.size → b ≡ h.count → let made : DataHeader = record { size = a; count = b } in made ≡ h
same_header a b h same_size same_count =
    let H : ℕ → ℕ → DataHeader = λ s n. record { size = s; count = n } in
    ap (λ (s : ℕ). H s b) same_size ∙ ap (λ (n : ℕ). H h.size n) same_count

-- the fields of a header's bits
fields_again : (h : DataHeader) (behind : List Bool) → IsHeader h → fields_of (header_bits h ++ behind) ≡ h
fields_again h behind r =
    same_header _ _ h (octet_again h.size r.size)
    (same_count _ _ (h.count / 256 % 256) (h.count % 256) (octet_again (h.count / 256 % 256) (omega arith)) (octet_again (h.count % 256) (omega arith)) ∙ from_be_bytes-to_be_bytes_2 h.count r.count)

pub header_again : (h : DataHeader) (behind : List Bool) → IsHeader h → data_bits h ≤ length behind → header_of (header_bits h ++ behind) ≡ Some h
header_again h behind r there = header_of-is (header_bits h ++ behind) h (fields_again h behind r) (omega (arith, there))

-- eight bits are those of their octet
octet_of_front : (bits : List Bool) → 8 ≤ length bits
    → octet_bits (octet (get_or bits 0 false) (get_or bits 1 false) (get_or bits 2 false) (get_or bits 3 false) (get_or bits 4 false) (get_or bits 5 false) (get_or bits 6 false) (get_or bits 7 false)) ≡ take 8 bits
octet_of_front [] there = absurd (omega (arith, there))
octet_of_front (a ∷ []) there = absurd (omega (arith, there))
octet_of_front (a ∷ b ∷ []) there = absurd (omega (arith, there))
octet_of_front (a ∷ b ∷ c ∷ []) there = absurd (omega (arith, there))
octet_of_front (a ∷ b ∷ c ∷ d ∷ []) there = absurd (omega (arith, there))
octet_of_front (a ∷ b ∷ c ∷ d ∷ e ∷ []) there = absurd (omega (arith, there))
octet_of_front (a ∷ b ∷ c ∷ d ∷ e ∷ f ∷ []) there = absurd (omega (arith, there))
octet_of_front (a ∷ b ∷ c ∷ d ∷ e ∷ f ∷ g ∷ []) there = absurd (omega (arith, there))
octet_of_front (a ∷ b ∷ c ∷ d ∷ e ∷ f ∷ g ∷ h ∷ rest) there = octet_bits_again a b c d e f g h

same_octet : {a b c d e f g h p q r s t u v w : Bool} → a ≡ p → b ≡ q → c ≡ r → d ≡ s → e ≡ t → f ≡ u → g ≡ v → h ≡ w → octet a b c d e f g h ≡ octet p q r s t u v w
same_octet first second third fourth fifth sixth seventh eighth = rw (first, second, third, fourth, fifth, sixth, seventh, eighth) refl

octet_at-drop : (text : List Bool) (place : ℕ) → octet (get_or (drop place text) 0 false) (get_or (drop place text) 1 false) (get_or (drop place text) 2 false) (get_or (drop place text) 3 false)
    (get_or (drop place text) 4 false) (get_or (drop place text) 5 false) (get_or (drop place text) 6 false) (get_or (drop place text) 7 false) ≡ octet_at text place
octet_at-drop text place =
    same_octet (get_or-drop place text 0 false ∙ ap (λ (n : ℕ). get_or text n false) (omega arith)) (get_or-drop place text 1 false) (get_or-drop place text 2 false) (get_or-drop place text 3 false)
    (get_or-drop place text 4 false) (get_or-drop place text 5 false) (get_or-drop place text 6 false) (get_or-drop place text 7 false)

-- eight bits from a place on are those of the octet there
octet_at_again : (text : List Bool) (place : ℕ) → place + 8 ≤ length text → octet_bits (octet_at text place) ≡ take 8 (drop place text)
octet_at_again text place there =
    ap octet_bits (sym (octet_at-drop text place)) ∙ octet_of_front (drop place text) (omega (arith, there, length-drop place text))

high_again : (high low : ℕ) → high < 256 → low < 256 → (high * 256 + low) / 256 % 256 ≡ high
high_again high low first second = omega arith

low_again : (high low : ℕ) → high < 256 → low < 256 → (high * 256 + low) % 256 ≡ low
low_again high low first second = omega arith

octet_at_below : (text : List Bool) (place : ℕ) → octet_at text place < 256
octet_at_below text place = octet_below _ _ _ _ _ _ _ _

three : {a b c x y z : List Bool} → a ≡ x → b ≡ y → c ≡ z → a ++ b ++ c ≡ x ++ y ++ z
three first second third = rw (first, second, third) refl

-- 24 bits are three times eight
three_octets : (text : List Bool) → take 24 (drop 8 text) ≡ take 8 (drop 8 text) ++ take 8 (drop 16 text) ++ take 8 (drop 24 text)
three_octets text =
    take-add 16 8 (drop 8 text)
    ∙ ap (λ (l : List Bool). l ++ take 8 (drop 16 (drop 8 text))) (take-add 8 8 (drop 8 text))
    ∙ three (let e : take 8 (drop 8 text) ≡ take 8 (drop 8 text) = refl in e) (ap (λ (l : List Bool). take 8 l) (drop-drop 8 8 text)) (ap (λ (l : List Bool). take 8 l) (drop-drop 16 8 text))

-- the bits of a text's fields, spelled again, are the text's
fields_spelled : (text : List Bool) → 40 ≤ length text → take 24 (drop 8 (header_bits (fields_of text))) ≡ take 24 (drop 8 text)
fields_spelled text there =
    let high : ℕ = octet_at text 16 in
    let low : ℕ = octet_at text 24 in
    three
    (octet_at_again text 8 (omega (arith, there)))
    (ap octet_bits (high_again high low (octet_at_below text 16) (octet_at_below text 24)) ∙ octet_at_again text 16 (omega (arith, there)))
    (ap octet_bits (low_again high low (octet_at_below text 16) (octet_at_below text 24)) ∙ octet_at_again text 24 (omega (arith, there)))
    ∙ sym (three_octets text)

chosen : (b : Bool) (x h : DataHeader) → (if b then None else Some x) ≡ Some h → (b ≡ false) × (x ≡ h)
chosen true x h e = absurd cc
chosen false x h e = (refl, ap (λ (o : Option DataHeader). unwrap_or o x) e)

-- a text with a header is long enough for it
header_of-tells : (text : List Bool) (h : DataHeader) → header_of text ≡ Some h → (40 ≤ length text) × (fields_of text ≡ h)
header_of-tells text h e =
    let told : (nat_lt (length text) 40 || nat_lt (length text) (40 + data_bits (fields_of text)) ≡ false) × (fields_of text ≡ h) = chosen _ _ h e in
    let long : nat_lt (length text) 40 ≡ false = (or_parts _ _ told.0).0 in
    (grind (arith, nat_tests, long), told.1)

pub header_spelled : (text : List Bool) (h : DataHeader) → header_of text ≡ Some h → take 24 (drop 8 (header_bits h)) ≡ take 24 (drop 8 text)
header_spelled text h e =
    let told : (40 ≤ length text) × (fields_of text ≡ h) = header_of-tells text h e in
    subst (λ (h : DataHeader). take 24 (drop 8 (header_bits h)) ≡ take 24 (drop 8 text)) told.1 (fields_spelled text told.0)

-- ---- the octets of a text

bit_behind : (front rest : List Bool) (k m : ℕ) → length front + k ≡ m → get_or rest k false ≡ get_or (front ++ rest) m false
bit_behind front rest k m at = sym (get_or-append-add front rest k false) ∙ ap (λ (n : ℕ). get_or (front ++ rest) n false) at

-- after eight bits an octet is one further
octet_behind : (front rest : List Bool) (k : ℕ) → length front ≡ 8 → octet_at rest (8 * k) ≡ octet_at (front ++ rest) (8 * suc k)
octet_behind front rest k eight =
    same_octet (bit_behind front rest (8 * k) (8 * suc k) (omega (arith, eight))) (bit_behind front rest (8 * k + 1) (8 * suc k + 1) (omega (arith, eight))) (bit_behind front rest (8 * k + 2) (8 * suc k + 2) (omega (arith, eight)))
    (bit_behind front rest (8 * k + 3) (8 * suc k + 3) (omega (arith, eight))) (bit_behind front rest (8 * k + 4) (8 * suc k + 4) (omega (arith, eight))) (bit_behind front rest (8 * k + 5) (8 * suc k + 5) (omega (arith, eight)))
    (bit_behind front rest (8 * k + 6) (8 * suc k + 6) (omega (arith, eight))) (bit_behind front rest (8 * k + 7) (8 * suc k + 7) (omega (arith, eight)))

-- each octet of a text has its eight bits
octet_of_text : (text : List Bool) (k : ℕ) → 8 * k + 8 ≤ length text → get_or (octets_of text) k 0 ≡ octet_at text (8 * k)
unfolding octets_of
octet_of_text [] k there = absurd (omega arith)
octet_of_text (a ∷ []) k there = absurd (omega arith)
octet_of_text (a ∷ b ∷ []) k there = absurd (omega arith)
octet_of_text (a ∷ b ∷ c ∷ []) k there = absurd (omega arith)
octet_of_text (a ∷ b ∷ c ∷ d ∷ []) k there = absurd (omega arith)
octet_of_text (a ∷ b ∷ c ∷ d ∷ e ∷ []) k there = absurd (omega arith)
octet_of_text (a ∷ b ∷ c ∷ d ∷ e ∷ f ∷ []) k there = absurd (omega arith)
octet_of_text (a ∷ b ∷ c ∷ d ∷ e ∷ f ∷ g ∷ []) k there = absurd (omega arith)
octet_of_text (a ∷ b ∷ c ∷ d ∷ e ∷ f ∷ g ∷ h ∷ rest) zero there = refl
octet_of_text (a ∷ b ∷ c ∷ d ∷ e ∷ f ∷ g ∷ h ∷ rest) (suc k) there =
    octet_of_text rest k (omega arith) ∙ octet_behind (a ∷ b ∷ c ∷ d ∷ e ∷ f ∷ g ∷ h ∷ []) rest k refl

-- and all of them are there
pub octets_enough : (text : List Bool) → length text ≤ 8 * length (octets_of text)
octets_enough text =
    let all : 8 * length (octets_of text) ≡ length text + length (replicate (spare_bits (length text)) false) = sym (length-bits_of (octets_of text)) ∙ ap length (bits_again text) ∙ length-append text _ in
    omega arith

-- the fields that are in the octets of a text
pub fields_read : (text : List Bool) (octets : List ℕ) → octets ≡ octets_of text → 40 ≤ length text
    → (let read : DataHeader = record { size = get_or octets 1 0; count = from_be_bytes w16 (get_or octets 2 0 ∷ get_or octets 3 0 ∷ []) } in read ≡ fields_of text)
fields_read text octets same there =
    same_header _ _ (fields_of text) (ap (λ (os : List ℕ). get_or os 1 0) same ∙ octet_of_text text 1 (omega arith))
    (same_count _ _ (octet_at text 16) (octet_at text 24) (ap (λ (os : List ℕ). get_or os 2 0) same ∙ octet_of_text text 2 (omega arith)) (ap (λ (os : List ℕ). get_or os 3 0) same ∙ octet_of_text text 3 (omega arith)))
