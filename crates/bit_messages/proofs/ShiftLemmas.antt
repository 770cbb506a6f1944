-- Shifts and masks of octets, as lists of bits.
use Rattle.std.proofs.Common.{◌≡◌, ℕ, ◌+◌, ◌-◌, ◌*◌, ◌/◌, ◌%◌, ◌^◌, ◌<◌, ◌==◌, Bool, false, List, [], ◌∷◌, ◌++◌, take, drop, replicate, get_or, bit_and, bit_or, ap, sym, ◌∙◌, arith, suc, zero}
use Rattle.std.proofs.lemmas.Nat.{and_mask, or_block}
use Rattle.std.specs.Int.Bits.{or_zero_r, or_zero_l}
use Rattle.std.proofs.lemmas.Nat.Bits.{and_high_mask}
use Rattle.bit_messages.specs.Octets.{octet, octet_bits}
use Rattle.bit_messages.proofs.OctetLemmas.{bit_again, octet_bits_again, octet_again}

-- an octet by its eight digits
bits_from : (n a b c d e f g h : ℕ) → n ≡ 128 * (a % 2) + 64 * (b % 2) + 32 * (c % 2) + 16 * (d % 2) + 8 * (e % 2) + 4 * (f % 2) + 2 * (g % 2) + h % 2
    → octet_bits n ≡ (a % 2 == 1) ∷ (b % 2 == 1) ∷ (c % 2 == 1) ∷ (d % 2 == 1) ∷ (e % 2 == 1) ∷ (f % 2 == 1) ∷ (g % 2 == 1) ∷ (h % 2 == 1) ∷ []
bits_from n a b c d e f g h is =
    let digits : n ≡ octet (a % 2 == 1) (b % 2 == 1) (c % 2 == 1) (d % 2 == 1) (e % 2 == 1) (f % 2 == 1) (g % 2 == 1) (h % 2 == 1) =
    rw (bit_again a, bit_again b, bit_again c, bit_again d, bit_again e, bit_again f, bit_again g, bit_again h) is in
    ap octet_bits digits ∙ octet_bits_again (a % 2 == 1) (b % 2 == 1) (c % 2 == 1) (d % 2 == 1) (e % 2 == 1) (f % 2 == 1) (g % 2 == 1) (h % 2 == 1)

-- an or of bits at different places is a sum
or_apart : (k a b : ℕ) → b < 2 ^ k → bit_or (a * 2 ^ k) b ≡ a * 2 ^ k + b
or_apart k a b lt =
    let left : a * 2 ^ k ≡ a * 2 ^ k + 0 = omega arith in
    let right : b ≡ 0 * 2 ^ k + b = omega arith in
    let both : bit_or (a * 2 ^ k + 0) (0 * 2 ^ k + b) ≡ bit_or a 0 * 2 ^ k + bit_or 0 b = or_block k a 0 0 b (omega (arith, lt)) lt in
    ap (λ (v : ℕ). bit_or v b) left ∙ ap (λ (v : ℕ). bit_or (a * 2 ^ k + 0) v) right ∙ both ∙ ap (λ (v : ℕ). v * 2 ^ k + bit_or 0 b) (or_zero_r a) ∙ ap (λ (v : ℕ). a * 2 ^ k + v) (or_zero_l b)

or_sum : (k n a b : ℕ) → n ≡ a * 2 ^ k → b < 2 ^ k → bit_or n b ≡ n + b
or_sum k n a b is lt = ap (λ (v : ℕ). bit_or v b) is ∙ or_apart k a b lt ∙ ap (λ (v : ℕ). v + b) (sym is)

-- the bits after the first ones of two octets
pub joined_bits : (x y by : ℕ) → x < 256 → y < 256 → 0 < by → by < 8
    → octet_bits (bit_or (x * 2 ^ by % 256) (y / 2 ^ (8 - by))) ≡ drop by (octet_bits x) ++ take by (octet_bits y)
joined_bits x y zero xs ys some few = absurd (omega arith)
joined_bits x y (suc zero) xs ys some few =
    let n : ℕ = bit_or (x * 2 % 256) (y / 128) in
    let is : n ≡ x * 2 % 256 + y / 128 = or_sum 1 (x * 2 % 256) (x % 128) (y / 128) (omega arith) (omega arith) in
    bits_from n (x / 64) (x / 32) (x / 16) (x / 8) (x / 4) (x / 2) x (y / 128) (omega (arith, is))
joined_bits x y (suc (suc zero)) xs ys some few =
    let n : ℕ = bit_or (x * 4 % 256) (y / 64) in
    let is : n ≡ x * 4 % 256 + y / 64 = or_sum 2 (x * 4 % 256) (x % 64) (y / 64) (omega arith) (omega arith) in
    bits_from n (x / 32) (x / 16) (x / 8) (x / 4) (x / 2) x (y / 128) (y / 64) (omega (arith, is))
joined_bits x y (suc (suc (suc zero))) xs ys some few =
    let n : ℕ = bit_or (x * 8 % 256) (y / 32) in
    let is : n ≡ x * 8 % 256 + y / 32 = or_sum 3 (x * 8 % 256) (x % 32) (y / 32) (omega arith) (omega arith) in
    bits_from n (x / 16) (x / 8) (x / 4) (x / 2) x (y / 128) (y / 64) (y / 32) (omega (arith, is))
joined_bits x y (suc (suc (suc (suc zero)))) xs ys some few =
    let n : ℕ = bit_or (x * 16 % 256) (y / 16) in
    let is : n ≡ x * 16 % 256 + y / 16 = or_sum 4 (x * 16 % 256) (x % 16) (y / 16) (omega arith) (omega arith) in
    bits_from n (x / 8) (x / 4) (x / 2) x (y / 128) (y / 64) (y / 32) (y / 16) (omega (arith, is))
joined_bits x y (suc (suc (suc (suc (suc zero))))) xs ys some few =
    let n : ℕ = bit_or (x * 32 % 256) (y / 8) in
    let is : n ≡ x * 32 % 256 + y / 8 = or_sum 5 (x * 32 % 256) (x % 8) (y / 8) (omega arith) (omega arith) in
    bits_from n (x / 4) (x / 2) x (y / 128) (y / 64) (y / 32) (y / 16) (y / 8) (omega (arith, is))
joined_bits x y (suc (suc (suc (suc (suc (suc zero)))))) xs ys some few =
    let n : ℕ = bit_or (x * 64 % 256) (y / 4) in
    let is : n ≡ x * 64 % 256 + y / 4 = or_sum 6 (x * 64 % 256) (x % 4) (y / 4) (omega arith) (omega arith) in
    bits_from n (x / 2) x (y / 128) (y / 64) (y / 32) (y / 16) (y / 8) (y / 4) (omega (arith, is))
joined_bits x y (suc (suc (suc (suc (suc (suc (suc zero))))))) xs ys some few =
    let n : ℕ = bit_or (x * 128 % 256) (y / 2) in
    let is : n ≡ x * 128 % 256 + y / 2 = or_sum 7 (x * 128 % 256) (x % 2) (y / 2) (omega arith) (omega arith) in
    bits_from n x (y / 128) (y / 64) (y / 32) (y / 16) (y / 8) (y / 4) (y / 2) (omega (arith, is))
joined_bits x y (suc (suc (suc (suc (suc (suc (suc (suc by)))))))) xs ys some few = absurd (omega arith)

-- only the first bits of an octet
pub cleared_bits : (x used : ℕ) → x < 256 → 0 < used → used < 8
    → octet_bits (bit_and x (255 * 2 ^ (8 - used) % 256)) ≡ take used (octet_bits x) ++ replicate (8 - used) false
cleared_bits x zero xs some few = absurd (omega arith)
cleared_bits x (suc zero) xs some few =
    let is : bit_and x 128 ≡ x / 128 * 128 = and_high_mask 8 7 (omega arith) x xs in
    bits_from (bit_and x 128) (x / 128) 0 0 0 0 0 0 0 (omega (arith, is))
cleared_bits x (suc (suc zero)) xs some few =
    let is : bit_and x 192 ≡ x / 64 * 64 = and_high_mask 8 6 (omega arith) x xs in
    bits_from (bit_and x 192) (x / 128) (x / 64) 0 0 0 0 0 0 (omega (arith, is))
cleared_bits x (suc (suc (suc zero))) xs some few =
    let is : bit_and x 224 ≡ x / 32 * 32 = and_high_mask 8 5 (omega arith) x xs in
    bits_from (bit_and x 224) (x / 128) (x / 64) (x / 32) 0 0 0 0 0 (omega (arith, is))
cleared_bits x (suc (suc (suc (suc zero)))) xs some few =
    let is : bit_and x 240 ≡ x / 16 * 16 = and_high_mask 8 4 (omega arith) x xs in
    bits_from (bit_and x 240) (x / 128) (x / 64) (x / 32) (x / 16) 0 0 0 0 (omega (arith, is))
cleared_bits x (suc (suc (suc (suc (suc zero))))) xs some few =
    let is : bit_and x 248 ≡ x / 8 * 8 = and_high_mask 8 3 (omega arith) x xs in
    bits_from (bit_and x 248) (x / 128) (x / 64) (x / 32) (x / 16) (x / 8) 0 0 0 (omega (arith, is))
cleared_bits x (suc (suc (suc (suc (suc (suc zero)))))) xs some few =
    let is : bit_and x 252 ≡ x / 4 * 4 = and_high_mask 8 2 (omega arith) x xs in
    bits_from (bit_and x 252) (x / 128) (x / 64) (x / 32) (x / 16) (x / 8) (x / 4) 0 0 (omega (arith, is))
cleared_bits x (suc (suc (suc (suc (suc (suc (suc zero))))))) xs some few =
    let is : bit_and x 254 ≡ x / 2 * 2 = and_high_mask 8 1 (omega arith) x xs in
    bits_from (bit_and x 254) (x / 128) (x / 64) (x / 32) (x / 16) (x / 8) (x / 4) (x / 2) 0 (omega (arith, is))
cleared_bits x (suc (suc (suc (suc (suc (suc (suc (suc used)))))))) xs some few = absurd (omega arith)

-- a bit of an octet is a test of its digit
pub bit_of_octet : (n place : ℕ) → place < 8 → (bit_and (n / 2 ^ (7 - place)) 1 == 1) ≡ get_or (octet_bits n) place false
bit_of_octet n zero few = ap (λ (v : ℕ). v == 1) (and_mask (n / 128) 1)
bit_of_octet n (suc zero) few = ap (λ (v : ℕ). v == 1) (and_mask (n / 64) 1)
bit_of_octet n (suc (suc zero)) few = ap (λ (v : ℕ). v == 1) (and_mask (n / 32) 1)
bit_of_octet n (suc (suc (suc zero))) few = ap (λ (v : ℕ). v == 1) (and_mask (n / 16) 1)
bit_of_octet n (suc (suc (suc (suc zero)))) few = ap (λ (v : ℕ). v == 1) (and_mask (n / 8) 1)
bit_of_octet n (suc (suc (suc (suc (suc zero))))) few = ap (λ (v : ℕ). v == 1) (and_mask (n / 4) 1)
bit_of_octet n (suc (suc (suc (suc (suc (suc zero)))))) few = ap (λ (v : ℕ). v == 1) (and_mask (n / 2) 1)
bit_of_octet n (suc (suc (suc (suc (suc (suc (suc zero))))))) few = ap (λ (v : ℕ). v == 1) (and_mask (n / 1) 1 ∙ (let e : n / 1 % 2 ≡ n % 2 = omega arith in e))
bit_of_octet n (suc (suc (suc (suc (suc (suc (suc (suc place)))))))) few = absurd (omega arith)

-- octets with the same bits are the same
pub same_octet : (x y : ℕ) → x < 256 → y < 256 → octet_bits x ≡ octet_bits y → x ≡ y
same_octet x y xs ys same =
    let read : List Bool → ℕ = λ (b : List Bool). octet (get_or b 0 false) (get_or b 1 false) (get_or b 2 false) (get_or b 3 false) (get_or b 4 false) (get_or b 5 false) (get_or b 6 false) (get_or b 7 false) in
    sym (octet_again x xs) ∙ ap read same ∙ octet_again y ys

-- an octet of a few bits, filled up by the next one
pub filled_bits : (x y used : ℕ) → x < 256 → y < 256 → 0 < used → used < 8 → octet_bits x ≡ take used (octet_bits x) ++ replicate (8 - used) false
    → octet_bits (bit_or x (y / 2 ^ used)) ≡ take used (octet_bits x) ++ take (8 - used) (octet_bits y)
filled_bits x y zero xs ys some few zeros = absurd (omega arith)
filled_bits x y (suc zero) xs ys some few zeros =
    let whole : x ≡ x / 128 * 128 = same_octet x (x / 128 * 128) xs (omega arith) (zeros ∙ sym (bits_from (x / 128 * 128) (x / 128) 0 0 0 0 0 0 0 (omega arith))) in
    let n : ℕ = bit_or x (y / 2) in
    let is : n ≡ x + y / 2 = or_sum 7 x (x / 128) (y / 2) whole (omega arith) in
    bits_from n (x / 128) (y / 128) (y / 64) (y / 32) (y / 16) (y / 8) (y / 4) (y / 2) (omega (arith, is, whole))
filled_bits x y (suc (suc zero)) xs ys some few zeros =
    let whole : x ≡ x / 64 * 64 = same_octet x (x / 64 * 64) xs (omega arith) (zeros ∙ sym (bits_from (x / 64 * 64) (x / 128) (x / 64) 0 0 0 0 0 0 (omega arith))) in
    let n : ℕ = bit_or x (y / 4) in
    let is : n ≡ x + y / 4 = or_sum 6 x (x / 64) (y / 4) whole (omega arith) in
    bits_from n (x / 128) (x / 64) (y / 128) (y / 64) (y / 32) (y / 16) (y / 8) (y / 4) (omega (arith, is, whole))
filled_bits x y (suc (suc (suc zero))) xs ys some few zeros =
    let whole : x ≡ x / 32 * 32 = same_octet x (x / 32 * 32) xs (omega arith) (zeros ∙ sym (bits_from (x / 32 * 32) (x / 128) (x / 64) (x / 32) 0 0 0 0 0 (omega arith))) in
    let n : ℕ = bit_or x (y / 8) in
    let is : n ≡ x + y / 8 = or_sum 5 x (x / 32) (y / 8) whole (omega arith) in
    bits_from n (x / 128) (x / 64) (x / 32) (y / 128) (y / 64) (y / 32) (y / 16) (y / 8) (omega (arith, is, whole))
filled_bits x y (suc (suc (suc (suc zero)))) xs ys some few zeros =
    let whole : x ≡ x / 16 * 16 = same_octet x (x / 16 * 16) xs (omega arith) (zeros ∙ sym (bits_from (x / 16 * 16) (x / 128) (x / 64) (x / 32) (x / 16) 0 0 0 0 (omega arith))) in
    let n : ℕ = bit_or x (y / 16) in
    let is : n ≡ x + y / 16 = or_sum 4 x (x / 16) (y / 16) whole (omega arith) in
    bits_from n (x / 128) (x / 64) (x / 32) (x / 16) (y / 128) (y / 64) (y / 32) (y / 16) (omega (arith, is, whole))
filled_bits x y (suc (suc (suc (suc (suc zero))))) xs ys some few zeros =
    let whole : x ≡ x / 8 * 8 = same_octet x (x / 8 * 8) xs (omega arith) (zeros ∙ sym (bits_from (x / 8 * 8) (x / 128) (x / 64) (x / 32) (x / 16) (x / 8) 0 0 0 (omega arith))) in
    let n : ℕ = bit_or x (y / 32) in
    let is : n ≡ x + y / 32 = or_sum 3 x (x / 8) (y / 32) whole (omega arith) in
    bits_from n (x / 128) (x / 64) (x / 32) (x / 16) (x / 8) (y / 128) (y / 64) (y / 32) (omega (arith, is, whole))
filled_bits x y (suc (suc (suc (suc (suc (suc zero)))))) xs ys some few zeros =
    let whole : x ≡ x / 4 * 4 = same_octet x (x / 4 * 4) xs (omega arith) (zeros ∙ sym (bits_from (x / 4 * 4) (x / 128) (x / 64) (x / 32) (x / 16) (x / 8) (x / 4) 0 0 (omega arith))) in
    let n : ℕ = bit_or x (y / 64) in
    let is : n ≡ x + y / 64 = or_sum 2 x (x / 4) (y / 64) whole (omega arith) in
    bits_from n (x / 128) (x / 64) (x / 32) (x / 16) (x / 8) (x / 4) (y / 128) (y / 64) (omega (arith, is, whole))
filled_bits x y (suc (suc (suc (suc (suc (suc (suc zero))))))) xs ys some few zeros =
    let whole : x ≡ x / 2 * 2 = same_octet x (x / 2 * 2) xs (omega arith) (zeros ∙ sym (bits_from (x / 2 * 2) (x / 128) (x / 64) (x / 32) (x / 16) (x / 8) (x / 4) (x / 2) 0 (omega arith))) in
    let n : ℕ = bit_or x (y / 128) in
    let is : n ≡ x + y / 128 = or_sum 1 x (x / 2) (y / 128) whole (omega arith) in
    bits_from n (x / 128) (x / 64) (x / 32) (x / 16) (x / 8) (x / 4) (x / 2) (y / 128) (omega (arith, is, whole))
filled_bits x y (suc (suc (suc (suc (suc (suc (suc (suc used)))))))) xs ys some few zeros = absurd (omega arith)
