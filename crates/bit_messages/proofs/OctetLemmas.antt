-- Octets and bits, both ways.
use Rattle.std.proofs.Common.{◌≡◌, ℕ, ◌*◌, ◌/◌, ◌%◌, ◌<◌, ◌≤◌, Bool, true, false, List, [], ◌∷◌, ◌++◌, length, take, drop, refl, ap, sym, ◌∙◌, arith}
use Rattle.std.proofs.Common.{None, nat_lt, ◌==◌, eq-eqb, ne_eqb, inl, inr, replicate, All, suc}
use Rattle.std.proofs.lemmas.Bool.{cases_eq}
use Rattle.std.proofs.lemmas.List.Elements.{All-cons}
use Rattle.std.proofs.lemmas.Bool.Decides.{nat_tests}
use Rattle.std.proofs.lemmas.List.{take-append-drop, take-append-le, length-take-le}
use Rattle.std.proofs.lemmas.Grind.{flat_map-append}
use Rattle.bit_messages.specs.Octets.{octets_of, octet, bit_value, bits_of, octet_bits, octets_fault, spare_bits}

pub length-bits_of : (octets : List ℕ) → length (bits_of octets) ≡ 8 * length octets
length-bits_of [] = refl
length-bits_of (n ∷ ns) = omega (arith, length-bits_of ns)

-- the first bits are in the first octets
pub record HasFirstBits (octets : List ℕ) (count whole : ℕ) : Type 0 where
  pub there : octets_fault octets count ≡ None
  pub same : take count (bits_of (take whole octets)) ≡ take count (bits_of octets)

pub first_bits : (octets : List ℕ) (count whole : ℕ) → count ≤ 8 * whole → whole ≤ length octets → HasFirstBits octets count whole
first_bits octets count whole covered within = record {
  there = (let enough : nat_lt (8 * length octets) count ≡ false = grind (arith, nat_tests) in rw enough refl);
  same =
      (let whole_bits : length (bits_of (take whole octets)) ≡ 8 * whole = length-bits_of (take whole octets) ∙ ap (λ (n : ℕ). 8 * n) (length-take-le whole octets within) in
      let joined : bits_of octets ≡ bits_of (take whole octets) ++ bits_of (drop whole octets) = ap bits_of (sym (take-append-drop whole octets)) ∙ flat_map-append octet_bits (take whole octets) (drop whole octets) in
      let fits : count ≤ length (bits_of (take whole octets)) = omega (arith, whole_bits) in
      sym (ap (λ (b : List Bool). take count b) joined ∙ take-append-le count (bits_of (take whole octets)) (bits_of (drop whole octets)) fits));
}

bit_at_most : (b : Bool) → bit_value b ≤ 1
bit_at_most true = omega arith
bit_at_most false = omega arith

pub bit_again : (n : ℕ) → bit_value (n % 2 == 1) ≡ n % 2
bit_again n = elim (cases_eq (n % 2) 1) [
  | inl e ↦ rw (eq-eqb (n % 2) 1 e) (sym e)
  | inr ne ↦ rw (ne_eqb (n % 2) 1 ne) (omega arith)
]

bit_is : (b : Bool) (n : ℕ) → n ≡ bit_value b → (n == 1) ≡ b
bit_is true n e = eq-eqb n 1 e
bit_is false n e = ne_eqb n 1 (λ one. absurd (omega (arith, e, one)))

-- the octet of an octet's bits
pub octet_again : (n : ℕ) → n < 256 → octet (n / 128 % 2 == 1) (n / 64 % 2 == 1) (n / 32 % 2 == 1) (n / 16 % 2 == 1) (n / 8 % 2 == 1) (n / 4 % 2 == 1) (n / 2 % 2 == 1) (n % 2 == 1) ≡ n
octet_again n lt =
    rw (bit_again (n / 128), bit_again (n / 64), bit_again (n / 32), bit_again (n / 16), bit_again (n / 8), bit_again (n / 4), bit_again (n / 2), bit_again n) (omega arith)

pub octet_below : (a b c d e f g h : Bool) → octet a b c d e f g h < 256
octet_below a b c d e f g h = omega (arith, bit_at_most a, bit_at_most b, bit_at_most c, bit_at_most d, bit_at_most e, bit_at_most f, bit_at_most g, bit_at_most h)

same_cells : {p q r s t u v w a b c d e f g h : Bool} → p ≡ a → q ≡ b → r ≡ c → s ≡ d → t ≡ e → u ≡ f → v ≡ g → w ≡ h
    → p ∷ q ∷ r ∷ s ∷ t ∷ u ∷ v ∷ w ∷ [] ≡ a ∷ b ∷ c ∷ d ∷ e ∷ f ∷ g ∷ h ∷ []
same_cells pa qb rc sd te uf vg wh = cc

-- the bits of an octet of bits
pub octet_bits_again : (a b c d e f g h : Bool) → octet_bits (octet a b c d e f g h) ≡ a ∷ b ∷ c ∷ d ∷ e ∷ f ∷ g ∷ h ∷ []
octet_bits_again a b c d e f g h =
    let A : bit_value a ≤ 1 = bit_at_most a in
    let B : bit_value b ≤ 1 = bit_at_most b in
    let C : bit_value c ≤ 1 = bit_at_most c in
    let D : bit_value d ≤ 1 = bit_at_most d in
    let E : bit_value e ≤ 1 = bit_at_most e in
    let F : bit_value f ≤ 1 = bit_at_most f in
    let G : bit_value g ≤ 1 = bit_at_most g in
    let H : bit_value h ≤ 1 = bit_at_most h in
    same_cells
    (bit_is a (octet a b c d e f g h / 128 % 2) (omega arith))
    (bit_is b (octet a b c d e f g h / 64 % 2) (omega arith))
    (bit_is c (octet a b c d e f g h / 32 % 2) (omega arith))
    (bit_is d (octet a b c d e f g h / 16 % 2) (omega arith))
    (bit_is e (octet a b c d e f g h / 8 % 2) (omega arith))
    (bit_is f (octet a b c d e f g h / 4 % 2) (omega arith))
    (bit_is g (octet a b c d e f g h / 2 % 2) (omega arith))
    (bit_is h (octet a b c d e f g h % 2) (omega arith))

-- octets are given back by their bits
pub octets_again : (octets : List ℕ) → All (λ n. n < 256) octets → octets_of (bits_of octets) ≡ octets
unfolding octets_of
octets_again [] small = refl
octets_again (n ∷ ns) small =
    let here : octet (n / 128 % 2 == 1) (n / 64 % 2 == 1) (n / 32 % 2 == 1) (n / 16 % 2 == 1) (n / 8 % 2 == 1) (n / 4 % 2 == 1) (n / 2 % 2 == 1) (n % 2 == 1) ≡ n = octet_again n (small 0 0 (omega arith)) in
    rw (here, octets_again ns (λ k d lt. small (suc k) d (omega arith))) refl

-- whole octets come first
pub octets_of-append : (front back : List Bool) → length front % 8 ≡ 0 → octets_of (front ++ back) ≡ octets_of front ++ octets_of back
unfolding octets_of
octets_of-append [] back whole = refl
octets_of-append (a ∷ []) back whole = absurd (cc)
octets_of-append (a ∷ b ∷ []) back whole = absurd (cc)
octets_of-append (a ∷ b ∷ c ∷ []) back whole = absurd (cc)
octets_of-append (a ∷ b ∷ c ∷ d ∷ []) back whole = absurd (cc)
octets_of-append (a ∷ b ∷ c ∷ d ∷ e ∷ []) back whole = absurd (cc)
octets_of-append (a ∷ b ∷ c ∷ d ∷ e ∷ f ∷ []) back whole = absurd (cc)
octets_of-append (a ∷ b ∷ c ∷ d ∷ e ∷ f ∷ g ∷ []) back whole = absurd (cc)
octets_of-append (a ∷ b ∷ c ∷ d ∷ e ∷ f ∷ g ∷ h ∷ rest) back whole =
    ap (λ (ns : List ℕ). octet a b c d e f g h ∷ ns) (octets_of-append rest back (omega arith))

pub octets_below : (bits : List Bool) → All (λ n. n < 256) (octets_of bits)
unfolding octets_of
octets_below [] = λ k d lt. absurd (omega arith)
octets_below (a ∷ []) = All-cons (λ n. n < 256) _ [] (octet_below a false false false false false false false) (octets_below [])
octets_below (a ∷ b ∷ []) = All-cons (λ n. n < 256) _ [] (octet_below a b false false false false false false) (octets_below [])
octets_below (a ∷ b ∷ c ∷ []) = All-cons (λ n. n < 256) _ [] (octet_below a b c false false false false false) (octets_below [])
octets_below (a ∷ b ∷ c ∷ d ∷ []) = All-cons (λ n. n < 256) _ [] (octet_below a b c d false false false false) (octets_below [])
octets_below (a ∷ b ∷ c ∷ d ∷ e ∷ []) = All-cons (λ n. n < 256) _ [] (octet_below a b c d e false false false) (octets_below [])
octets_below (a ∷ b ∷ c ∷ d ∷ e ∷ f ∷ []) = All-cons (λ n. n < 256) _ [] (octet_below a b c d e f false false) (octets_below [])
octets_below (a ∷ b ∷ c ∷ d ∷ e ∷ f ∷ g ∷ []) = All-cons (λ n. n < 256) _ [] (octet_below a b c d e f g false) (octets_below [])
octets_below (a ∷ b ∷ c ∷ d ∷ e ∷ f ∷ g ∷ h ∷ rest) = All-cons (λ n. n < 256) _ (octets_of rest) (octet_below a b c d e f g h) (octets_below rest)

-- the bits of the octets of bits
pub bits_again : (bits : List Bool) → bits_of (octets_of bits) ≡ bits ++ replicate (spare_bits (length bits)) false
unfolding octets_of
bits_again [] = refl
bits_again (a ∷ []) = octet_bits_again a false false false false false false false
bits_again (a ∷ b ∷ []) = octet_bits_again a b false false false false false false
bits_again (a ∷ b ∷ c ∷ []) = octet_bits_again a b c false false false false false
bits_again (a ∷ b ∷ c ∷ d ∷ []) = octet_bits_again a b c d false false false false
bits_again (a ∷ b ∷ c ∷ d ∷ e ∷ []) = octet_bits_again a b c d e false false false
bits_again (a ∷ b ∷ c ∷ d ∷ e ∷ f ∷ []) = octet_bits_again a b c d e f false false
bits_again (a ∷ b ∷ c ∷ d ∷ e ∷ f ∷ g ∷ []) = octet_bits_again a b c d e f g false
bits_again (a ∷ b ∷ c ∷ d ∷ e ∷ f ∷ g ∷ h ∷ rest) =
    let spare : spare_bits (length rest) ≡ spare_bits (length (a ∷ b ∷ c ∷ d ∷ e ∷ f ∷ g ∷ h ∷ rest)) = omega arith in
    ap (λ (v : List Bool). v ++ bits_of (octets_of rest)) (octet_bits_again a b c d e f g h)
    ∙ ap (λ (v : List Bool). a ∷ b ∷ c ∷ d ∷ e ∷ f ∷ g ∷ h ∷ v) (bits_again rest)
    ∙ ap (λ (n : ℕ). a ∷ b ∷ c ∷ d ∷ e ∷ f ∷ g ∷ h ∷ (rest ++ replicate n false)) spare

-- bits that take octets
pub some_octets : (bits : List Bool) → 0 < length (octets_of bits) → 0 < length bits
unfolding octets_of
some_octets [] some = absurd (omega arith)
some_octets (b ∷ bits) some = omega arith
