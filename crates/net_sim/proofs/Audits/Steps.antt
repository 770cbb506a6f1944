-- A log read from its end, and when two lists of bits are the same.
use Rattle.net_sim.proofs.Common.{◌≡◌, ℕ, ◌+◌, ◌<◌, Bool, true, false, ◌==◌, List, [], ◌∷◌, ◌++◌, length, take, get_or, refl, ap, sym, subst, ◌∙◌, eqb-true, take_more, reverse-append, octets_of, bits_of, same_bit, and_true, both_ways}
use Rattle.std.proofs.Common.{reverse}
use Rattle.std.proofs.lemmas.List.{take_at}
use Rattle.std.specs.Prelude.{replicate}
use Rattle.std.specs.Cmp.Lexicographic.{pointwise}
use Rattle.std.proofs.lemmas.Slice.Eq.{slice_eq-Decides}
use Rattle.std.proofs.lemmas.Bool.Decides.{Decides-eqb}
use Rattle.std.proofs.Math.Dec.{eqb}
use Rattle.bit_messages.specs.Octets.{spare_bits}
use Rattle.bit_messages.proofs.lemmas.{bits_again}
use Rattle.net_sim.specs.Inside.Audit.{same_bits}

-- one crossing more at the end
pub reverse_more : {X : Type 0} (xs : List X) (i : ℕ) (d : X) → i < length xs → reverse (take (i + 1) xs) ≡ get_or xs i d ∷ reverse (take i xs)
reverse_more xs i d h = rw (take_more xs i d h) (reverse-append (take i xs) (get_or xs i d ∷ []))

-- ---- bits

pub same_bit-true : (x y : Bool) → same_bit x y ≡ true → x ≡ y
same_bit-true true true h = refl
same_bit-true true false h = absurd (cc)
same_bit-true false true h = absurd (cc)
same_bit-true false false h = refl

pub same_bit-refl : (x : Bool) → same_bit x x ≡ true
same_bit-refl true = refl
same_bit-refl false = refl

pub same_bits-true : (xs ys : List Bool) → same_bits xs ys ≡ true → xs ≡ ys
same_bits-true [] [] h = refl
same_bits-true [] (y ∷ ys) h = absurd (cc)
same_bits-true (x ∷ xs) [] h = absurd (cc)
same_bits-true (x ∷ xs) (y ∷ ys) h =
    let t = and_true (same_bit x y) (same_bits xs ys) h in
    let here : x ≡ y = same_bit-true x y t.0 in
    let rest : xs ≡ ys = same_bits-true xs ys t.1 in
    cc

pub same_bits-refl : (xs : List Bool) → same_bits xs xs ≡ true
same_bits-refl [] = refl
same_bits-refl (x ∷ xs) = rw (same_bit-refl x) (same_bits-refl xs)

pub same_bits-is : (xs ys : List Bool) → xs ≡ ys → same_bits xs ys ≡ true
same_bits-is xs ys e = let P : List Bool → Type 0 = λ z. same_bits xs z ≡ true in subst P e (same_bits-refl xs)

-- as many bits with the same octets are the same bits
from_octets : (xs ys : List Bool) → length xs ≡ length ys → octets_of xs ≡ octets_of ys → xs ≡ ys
from_octets xs ys n e =
    let all : xs ++ replicate (spare_bits (length xs)) false ≡ ys ++ replicate (spare_bits (length ys)) false =
    sym (bits_again xs) ∙ ap (λ (o : List ℕ). bits_of o) e ∙ bits_again ys in
    sym (take_at xs (replicate (spare_bits (length xs)) false) (length xs) refl) ∙ ap (λ (zs : List Bool). take (length xs) zs) all ∙ take_at ys (replicate (spare_bits (length ys)) false) (length xs) (sym n)

pub same_bits-octets : (xs ys : List Bool) (a b : List ℕ) (r : Bool) → a ≡ octets_of xs → b ≡ octets_of ys → length xs ≡ length ys → r ≡ pointwise eqb a b → r ≡ same_bits xs ys
same_bits-octets xs ys a b r p q n e =
    let d = slice_eq-Decides Decides-eqb a b r e in
    both_ways r (same_bits xs ys)
    (λ t. same_bits-is xs ys (from_octets xs ys n (sym p ∙ d.0 t ∙ q)))
    (λ t. d.1 (p ∙ ap (λ (zs : List Bool). octets_of zs) (same_bits-true xs ys t) ∙ sym q))

pub same_bits-apart : (xs ys : List Bool) (m n : ℕ) → m ≡ length xs → n ≡ length ys → (m ≡ n → ⊥) → (m == n) ≡ same_bits xs ys
same_bits-apart xs ys m n p q apart =
    both_ways (m == n) (same_bits xs ys)
    (λ t. absurd (apart (eqb-true m n t)))
    (λ t. absurd (apart (p ∙ ap (λ (zs : List Bool). length zs) (same_bits-true xs ys t) ∙ sym q)))
