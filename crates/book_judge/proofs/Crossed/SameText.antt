-- When two texts are the same.
use Rattle.book_judge.proofs.Common.{◌≡◌, ℕ, Bool, true, false, ◌==◌, List, [], ◌∷◌, ◌++◌, length, take, refl, ap, sym, subst, ◌∙◌, eqb-true, same_text, same_bit}
use Rattle.std.proofs.lemmas.List.{take_at}
use Rattle.interface.proofs.lemmas.{and_true, both_ways}
use Rattle.std.proofs.Math.Dec.{eqb}
use Rattle.std.proofs.lemmas.Bool.Decides.{Decides-eqb}
use Rattle.std.proofs.lemmas.Slice.Eq.{slice_eq-Decides}
use Rattle.std.specs.Cmp.Lexicographic.{pointwise}
use Rattle.std.specs.Prelude.{replicate}
use Rattle.bit_messages.specs.Octets.{bits_of, octets_of, spare_bits}
use Rattle.bit_messages.proofs.lemmas.{bits_again}

pub same_bit-true : (x y : Bool) → same_bit x y ≡ true → x ≡ y
same_bit-true true true h = refl
same_bit-true true false h = absurd (cc)
same_bit-true false true h = absurd (cc)
same_bit-true false false h = refl

pub same_bit-refl : (x : Bool) → same_bit x x ≡ true
same_bit-refl true = refl
same_bit-refl false = refl

pub same_text-true : (xs ys : List Bool) → same_text xs ys ≡ true → xs ≡ ys
same_text-true [] [] h = refl
same_text-true [] (y ∷ ys) h = absurd (cc)
same_text-true (x ∷ xs) [] h = absurd (cc)
same_text-true (x ∷ xs) (y ∷ ys) h =
    let t = and_true (same_bit x y) (same_text xs ys) h in
    let here : x ≡ y = same_bit-true x y t.0 in
    let rest : xs ≡ ys = same_text-true xs ys t.1 in
    cc

same_text-refl : (xs : List Bool) → same_text xs xs ≡ true
same_text-refl [] = refl
same_text-refl (x ∷ xs) = rw (same_bit-refl x) (same_text-refl xs)

pub same_text-is : (xs ys : List Bool) → xs ≡ ys → same_text xs ys ≡ true
same_text-is xs ys e = let P : List Bool → Type 0 = λ z. same_text xs z ≡ true in subst P e (same_text-refl xs)

-- as many bits with the same octets are the same bits
from_octets : (xs ys : List Bool) → length xs ≡ length ys → octets_of xs ≡ octets_of ys → xs ≡ ys
from_octets xs ys n e =
    let all : xs ++ replicate (spare_bits (length xs)) false ≡ ys ++ replicate (spare_bits (length ys)) false =
    sym (bits_again xs) ∙ ap (λ (o : List ℕ). bits_of o) e ∙ bits_again ys in
    sym (take_at xs (replicate (spare_bits (length xs)) false) (length xs) refl)
    ∙ ap (λ (zs : List Bool). take (length xs) zs) all
    ∙ take_at ys (replicate (spare_bits (length ys)) false) (length xs) (sym n)

pub same_octets : (xs ys : List Bool) (a b : List ℕ) (r : Bool) → a ≡ octets_of xs → b ≡ octets_of ys → length xs
    ≡ length ys → r ≡ pointwise eqb a b → r ≡ same_text xs ys
same_octets xs ys a b r p q n e =
    let d = slice_eq-Decides Decides-eqb a b r e in
    both_ways r (same_text xs ys)
    (λ t. same_text-is xs ys (from_octets xs ys n (sym p ∙ d.0 t ∙ q)))
    (λ t. d.1 (p ∙ ap (λ (zs : List Bool). octets_of zs) (same_text-true xs ys t) ∙ sym q))

pub other_lengths : (xs ys : List Bool) (m n : ℕ) → m ≡ length xs → n ≡ length ys → (m ≡ n → ⊥) → (m == n)
    ≡ same_text xs ys
other_lengths xs ys m n p q apart =
    both_ways (m == n) (same_text xs ys)
    (λ t. absurd (apart (eqb-true m n t)))
    (λ t. absurd (apart (p ∙ ap (λ (zs : List Bool). length zs) (same_text-true xs ys t) ∙ sym q)))
