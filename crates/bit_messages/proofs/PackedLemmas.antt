-- Lists of bits that are kept in octets.
use Rattle.std.proofs.Common.{◌≡◌, ℕ, ◌+◌, ◌-◌, ◌*◌, ◌/◌, ◌%◌, ◌<◌, ◌≤◌, Bool, true, false, List, [], ◌∷◌, ◌++◌, length, get_or, set, take, drop, replicate, refl, ap, sym, subst, ◌∙◌, arith, suc, zero, All, inl, inr}
use Rattle.std.proofs.Common.{drop-cons, take-add, Result, Ok, Err, IfOk, OnErr, IsErr, MatchResult, Fits, w8, nat_eq, ◌^◌, ◌==◌, Option, Some, None, IfSome, eq-eqb}
use Rattle.std.specs.Int.{trailing_zeros}
use Rattle.std.proofs.lemmas.Nat.Bits.{bit_at-trailing_zeros}
use Rattle.std.proofs.Math.Nat.{zero-div}
use Rattle.std.specs.Bool.{beq}
use Rattle.std.specs.Cmp.Lexicographic.{pointwise, same_text, other_text}
use Rattle.std.proofs.lemmas.List.{take_at, drop_at, drop_all, length-append, length-replicate, length-take-le, take-replicate, length-drop, get_or-append-add, take-take, drop-take, drop-drop, drop-append-le, take-append-le, append_assoc, append-nil, take-append-drop, set_split, replicate-append-replicate}
use Rattle.std.proofs.Math.ListN.{get_or-append}
use Rattle.std.proofs.Math.Seq.{drop-append-add, drop-nil, take-append-add, take-length}
use Rattle.std.proofs.lemmas.Bool.{cases_lt}
use Rattle.std.proofs.lemmas.Grind.{flat_map-append, get_or_default_zero}
use Rattle.bit_messages.specs.Octets.{octet_bits, bits_of, octets_of, spare_bits}
use Rattle.bit_messages.specs.Packed.{IsPacked, Packs}
use Rattle.bit_messages.specs.Store.{Stored, octets_for}
use Rattle.bit_messages.specs.Body.{body, filling, has_mark, text_of}
use Rattle.bit_messages.proofs.BodyLemmas.{HasZerosFrom, IsMarkedAt, marked_at, IsSplit, IsStripped, split_text, stripped_padded, unmarked_behind}
use Rattle.bit_messages.proofs.OctetLemmas.{length-bits_of, octets_again, octets_below, bits_again, first_bits, HasFirstBits}

cell_of_front : (n r : ℕ) (rest : List Bool) → r < 8 → get_or (octet_bits n ++ rest) r false ≡ get_or (octet_bits n) r false
cell_of_front n r rest few = get_or-append (octet_bits n) rest false r few

cell_at : (octets : List ℕ) (q r : ℕ) → q < length octets → r < 8 → get_or (octet_bits (get_or octets q 0)) r false ≡ get_or (bits_of octets) (8 * q + r) false
cell_at [] q r there few = absurd (omega arith)
cell_at (n ∷ ns) zero r there few =
    let at : r ≡ 8 * 0 + r = omega arith in
    sym (cell_of_front n r (bits_of ns) few) ∙ ap (λ (i : ℕ). get_or (octet_bits n ++ bits_of ns) i false) at
cell_at (n ∷ ns) (suc q) r there few =
    let at : 8 + (8 * q + r) ≡ 8 * suc q + r = omega arith in
    cell_at ns q r (omega arith) few ∙ sym (get_or-append-add (octet_bits n) (bits_of ns) (8 * q + r) false) ∙ ap (λ (i : ℕ). get_or (octet_bits n ++ bits_of ns) i false) at

-- the bit at a place is in an octet
pub bit_at_place : (octets : List ℕ) (place : ℕ) → place < 8 * length octets
    → get_or (octet_bits (get_or octets (place / 8) 0)) (place % 8) false ≡ get_or (bits_of octets) place false
bit_at_place octets place there =
    let at : 8 * (place / 8) + place % 8 ≡ place = omega arith in
    cell_at octets (place / 8) (place % 8) (omega arith) (omega arith) ∙ ap (λ (i : ℕ). get_or (bits_of octets) i false) at

-- what a list of bits and its octets have in common
pub record Keeps (octets : List ℕ) (count : ℕ) (bits : List Bool) : Type 0 where
  pub size : count ≡ length bits
  pub packs : Packs octets bits

-- after whole octets
bits_of-drop : (q : ℕ) (octets : List ℕ) → bits_of (drop q octets) ≡ drop (8 * q) (bits_of octets)
bits_of-drop zero octets = refl
bits_of-drop (suc q) [] = sym (drop-nil (8 * suc q))
bits_of-drop (suc q) (n ∷ ns) =
    let at : 8 + 8 * q ≡ 8 * suc q = omega arith in
    bits_of-drop q ns ∙ sym (drop-append-add (octet_bits n) (bits_of ns) (8 * q)) ∙ ap (λ (i : ℕ). drop i (octet_bits n ++ bits_of ns)) at

pub bits_of-append : (front back : List ℕ) → bits_of (front ++ back) ≡ bits_of front ++ bits_of back
bits_of-append front back = flat_map-append octet_bits front back

bits_of-take : (q : ℕ) (octets : List ℕ) → q ≤ length octets → bits_of (take q octets) ≡ take (8 * q) (bits_of octets)
bits_of-take q octets within =
    let size : length (bits_of (take q octets)) ≡ 8 * q = length-bits_of (take q octets) ∙ ap (λ (n : ℕ). 8 * n) (length-take-le q octets within) in
    let joined : bits_of octets ≡ bits_of (take q octets) ++ bits_of (drop q octets) = ap bits_of (sym (take-append-drop q octets)) ∙ bits_of-append (take q octets) (drop q octets) in
    sym (ap (λ (b : List Bool). take (8 * q) b) joined ∙ take_at (bits_of (take q octets)) (bits_of (drop q octets)) (8 * q) size)

-- the bits after which the zeros are
packs_view : (octets : List ℕ) (bits : List Bool) → Packs octets bits → take (length bits) (bits_of octets) ≡ bits
packs_view octets bits p = ap (λ (b : List Bool). take (length bits) b) p.same ∙ take_at bits (replicate p.zeros false) (length bits) refl

pub packs_size : (octets : List ℕ) (bits : List Bool) (p : Packs octets bits) → 8 * length octets ≡ length bits + p.zeros
packs_size octets bits p =
    sym (length-bits_of octets) ∙ ap length p.same ∙ length-append bits (replicate p.zeros false) ∙ ap (λ (n : ℕ). length bits + n) (length-replicate p.zeros false)

-- the octets are those of the bits
pub packs_octets : (octets : List ℕ) (bits : List Bool) → All (λ n. n < 256) octets → Packs octets bits → octets ≡ octets_of bits
packs_octets octets bits small p =
    let spare : p.zeros ≡ spare_bits (length bits) = omega (arith, packs_size octets bits p, p.few) in
    sym (octets_again octets small)
    ∙ ap octets_of (p.same ∙ ap (λ (n : ℕ). bits ++ replicate n false) spare ∙ sym (bits_again bits))
    ∙ octets_again (octets_of bits) (octets_below bits)

-- octets with these bits are a list that is kept
pub packed : (octets : List ℕ) (count : ℕ) (bits : List Bool) → count ≡ length bits → Packs octets bits → IsPacked octets count
packed octets count bits size p =
    let view : take count (bits_of octets) ≡ bits = ap (λ (n : ℕ). take n (bits_of octets)) size ∙ packs_view octets bits p in
    let P : List Bool → Type 0 = λ b. Packs octets b in
    record { within = omega (arith, size, packs_size octets bits p); packs = subst P (sym view) p }

pub viewed : (octets : List ℕ) (count : ℕ) (bits : List Bool) → count ≡ length bits → Packs octets bits → take count (bits_of octets) ≡ bits
viewed octets count bits size p = ap (λ (n : ℕ). take n (bits_of octets)) size ∙ packs_view octets bits p

-- a list that is kept
pub keeps : (octets : List ℕ) (count : ℕ) (bits : List Bool) → IsPacked octets count → take count (bits_of octets) ≡ bits → Keeps octets count bits
keeps octets count bits h view =
    let P : List Bool → Type 0 = λ b. Packs octets b in
    record {
      size = sym (length-take-le count (bits_of octets) (omega (arith, length-bits_of octets, h.within))) ∙ ap length view;
      packs = subst P view h.packs;
    }

length-kept : (octets : List ℕ) (count : ℕ) → IsPacked octets count → length (take count (bits_of octets)) ≡ count
length-kept octets count h = length-take-le count (bits_of octets) (omega (arith, length-bits_of octets, h.within))

-- a part of a list that is kept
pub part_of : (octets : List ℕ) (count from size : ℕ) → from + size ≤ count → take size (drop from (bits_of octets)) ≡ drop from (take (from + size) (take count (bits_of octets)))
part_of octets count from size within =
    sym (drop-take from size (bits_of octets)) ∙ ap (λ (b : List Bool). drop from b) (sym (take-take (from + size) count (bits_of octets) within))

-- one octet more of bits that are shifted
two_octets : (by x y : ℕ) (rest : List Bool) → 0 < by → by < 8 → take 8 (drop by (octet_bits x ++ (octet_bits y ++ rest))) ≡ drop by (octet_bits x) ++ take by (octet_bits y)
two_octets zero x y rest some few = absurd (omega arith)
two_octets (suc zero) x y rest some few = refl
two_octets (suc (suc zero)) x y rest some few = refl
two_octets (suc (suc (suc zero))) x y rest some few = refl
two_octets (suc (suc (suc (suc zero)))) x y rest some few = refl
two_octets (suc (suc (suc (suc (suc zero))))) x y rest some few = refl
two_octets (suc (suc (suc (suc (suc (suc zero)))))) x y rest some few = refl
two_octets (suc (suc (suc (suc (suc (suc (suc zero))))))) x y rest some few = refl
two_octets (suc (suc (suc (suc (suc (suc (suc (suc by)))))))) x y rest some few = absurd (omega arith)

-- the bits from an octet on
bits_at_octet : (octets : List ℕ) (i : ℕ) → i < length octets → drop (8 * i) (bits_of octets) ≡ octet_bits (get_or octets i 0) ++ bits_of (drop (suc i) octets)
bits_at_octet octets i there = sym (bits_of-drop i octets) ∙ ap bits_of (drop-cons octets i 0 there)

-- past the end there are zeros
past_end : (octets : List ℕ) (place : ℕ) → get_or octets place 0 ≡ get_or (octets ++ 0 ∷ []) place 0
past_end [] zero = refl
past_end [] (suc place) = refl
past_end (n ∷ ns) zero = refl
past_end (n ∷ ns) (suc place) = past_end ns place

pub shifted_more : (octets part : List ℕ) (by i next new : ℕ) → 0 < by → by < 8 → i < length octets → next ≡ get_or octets (i + 1) 0
    → octet_bits new ≡ drop by (octet_bits (get_or octets i 0)) ++ take by (octet_bits next)
    → bits_of part ≡ take (8 * i) (drop by (bits_of octets ++ replicate 8 false))
    → bits_of (part ++ new ∷ []) ≡ take (8 * (i + 1)) (drop by (bits_of octets ++ replicate 8 false))
shifted_more octets part by i next new some few there at joined so_far =
    let big : List ℕ = octets ++ 0 ∷ [] in
    let bits : bits_of octets ++ replicate 8 false ≡ bits_of big = sym (bits_of-append octets (0 ∷ [])) in
    let size : length big ≡ length octets + 1 = length-append octets (0 ∷ []) in
    let first : get_or big i 0 ≡ get_or octets i 0 = get_or-append octets (0 ∷ []) 0 i there in
    let here : drop (8 * i) (bits_of big) ≡ octet_bits (get_or big i 0) ++ bits_of (drop (suc i) big) = bits_at_octet big i (omega (arith, size)) in
    let second : bits_of (drop (suc i) big) ≡ octet_bits next ++ bits_of (drop (suc (suc i)) big) =
    (let step : suc i ≡ i + 1 = omega arith in ap bits_of (drop-cons big (suc i) 0 (omega (arith, size))) ∙ ap (λ (v : ℕ). octet_bits v ++ bits_of (drop (suc (suc i)) big)) (ap (λ (k : ℕ). get_or big k 0) step ∙ sym (at ∙ past_end octets (i + 1)))) in
    let both : drop (8 * i) (bits_of big) ≡ octet_bits (get_or octets i 0) ++ (octet_bits next ++ bits_of (drop (suc (suc i)) big)) =
    here ∙ ap (λ (v : ℕ). octet_bits v ++ bits_of (drop (suc i) big)) first ∙ ap (λ (b : List Bool). octet_bits (get_or octets i 0) ++ b) second in
    let swap : drop (8 * i) (drop by (bits_of big)) ≡ drop by (drop (8 * i) (bits_of big)) =
    (let e : by + 8 * i ≡ 8 * i + by = omega arith in drop-drop (8 * i) by (bits_of big) ∙ ap (λ (n : ℕ). drop n (bits_of big)) e ∙ sym (drop-drop by (8 * i) (bits_of big))) in
    let more : octet_bits new ≡ take 8 (drop (8 * i) (drop by (bits_of big))) =
    joined ∙ sym (two_octets by (get_or octets i 0) next (bits_of (drop (suc (suc i)) big)) some few) ∙ ap (λ (b : List Bool). take 8 (drop by b)) (sym both) ∙ ap (λ (b : List Bool). take 8 b) (sym swap) in
    let sum : 8 * i + 8 ≡ 8 * (i + 1) = omega arith in
    bits_of-append part (new ∷ [])
    ∙ ap (λ (b : List Bool). b ++ bits_of (new ∷ [])) so_far
    ∙ ap (λ (b : List Bool). take (8 * i) (drop by (bits_of octets ++ replicate 8 false)) ++ b) (append-nil (octet_bits new) ∙ more)
    ∙ ap (λ (b : List Bool). take (8 * i) (drop by b) ++ take 8 (drop (8 * i) (drop by (bits_of big)))) bits
    ∙ sym (take-add (8 * i) 8 (drop by (bits_of big)))
    ∙ ap (λ (n : ℕ). take n (drop by (bits_of big))) sum
    ∙ ap (λ (b : List Bool). take (8 * (i + 1)) (drop by b)) (sym bits)

-- whole octets and the first bits of the next one
first_of_octet : (octets : List ℕ) (k used : ℕ) → k < length octets → used < 8
    → take (8 * k) (bits_of octets) ++ take used (octet_bits (get_or octets k 0)) ≡ take (8 * k + used) (bits_of octets)
first_of_octet octets k used there few =
    let x : List Bool = octet_bits (get_or octets k 0) in
    let cut : take used (drop (8 * k) (bits_of octets)) ≡ take used x =
    ap (λ (b : List Bool). take used b) (bits_at_octet octets k there) ∙ take-append-le used x (bits_of (drop (suc k) octets)) (omega (arith, few)) in
    ap (λ (b : List Bool). take (8 * k) (bits_of octets) ++ b) (sym cut) ∙ sym (take-add (8 * k) used (bits_of octets))

-- the last octet of a list that is kept
pub last_octet : (octets : List ℕ) (count k used : ℕ) → IsPacked octets count → count ≡ 8 * k + used → 0 < used → used < 8
    → octet_bits (get_or octets k 0) ≡ take used (octet_bits (get_or octets k 0)) ++ replicate (8 - used) false
last_octet octets count k used h split some few =
    let x : List Bool = octet_bits (get_or octets k 0) in
    let all : List Bool = bits_of octets in
    let kept_size : length (take count all) ≡ count = length-kept octets count h in
    let size : 8 * length octets ≡ count + h.packs.zeros = packs_size octets (take count all) h.packs ∙ ap (λ (n : ℕ). n + h.packs.zeros) kept_size in
    let end : length octets ≡ suc k = omega (arith, size, split, h.packs.few) in
    let zeros : h.packs.zeros ≡ 8 - used = omega (arith, size, split, h.packs.few) in
    let rest : bits_of (drop (suc k) octets) ≡ [] = ap bits_of (drop_all (suc k) octets (omega (arith, end))) in
    let here : drop (8 * k) all ≡ x = bits_at_octet octets k (omega (arith, end)) ∙ ap (λ (b : List Bool). x ++ b) rest ∙ append-nil x in
    let front : drop (8 * k) (take count all) ≡ take used x =
    ap (λ (n : ℕ). drop (8 * k) (take n all)) split ∙ drop-take (8 * k) used all ∙ ap (λ (b : List Bool). take used b) here in
    sym here
    ∙ ap (λ (b : List Bool). drop (8 * k) b) h.packs.same
    ∙ drop-append-le (8 * k) (take count all) (replicate h.packs.zeros false) (omega (arith, kept_size, split))
    ∙ ap (λ (b : List Bool). b ++ replicate h.packs.zeros false) front
    ∙ ap (λ (n : ℕ). take used x ++ replicate n false) zeros

-- bits put after whole octets
pub put_whole : (octets more : List ℕ) (count size : ℕ) → IsPacked octets count → IsPacked more size → count % 8 ≡ 0
    → Packs (octets ++ more) (take count (bits_of octets) ++ take size (bits_of more))
put_whole octets more count size h m whole =
    let all : List Bool = bits_of octets in
    let total : 8 * length octets ≡ count + h.packs.zeros = packs_size octets (take count all) h.packs ∙ ap (λ (n : ℕ). n + h.packs.zeros) (length-kept octets count h) in
    let none : h.packs.zeros ≡ 0 = omega (arith, total, h.packs.few, whole) in
    let same : all ≡ take count all = h.packs.same ∙ ap (λ (n : ℕ). take count all ++ replicate n false) none ∙ append-nil (take count all) in
    record {
      zeros = m.packs.zeros;
      same =
          (bits_of-append octets more
          ∙ ap (λ (b : List Bool). b ++ bits_of more) same
          ∙ ap (λ (b : List Bool). take count all ++ b) m.packs.same
          ∙ sym (append_assoc (take count all) (take size (bits_of more)) (replicate m.packs.zeros false)));
      few = m.packs.few;
    }

-- what follows the bits that fill an octet up
record FillsUp (front tail bits : List Bool) : Type 0 where
  zeros : ℕ
  same : front ++ tail ≡ bits ++ replicate zeros false
  few : zeros < 8

fills_up : (more tail : List ℕ) (size room : ℕ) → IsPacked more size → room ≤ 8 * length more → room < 8
    → Packs tail (take (size - room) (drop room (bits_of more))) → FillsUp (take room (bits_of more)) (bits_of tail) (take size (bits_of more))
fills_up more tail size room m there few p = elim (cases_lt size room) [
  | inr enough ↦ (
      let sum : room + (size - room) ≡ size = omega (arith, enough) in
      record {
        zeros = p.zeros;
        same =
            (ap (λ (b : List Bool). take room (bits_of more) ++ b) p.same
            ∙ sym (append_assoc (take room (bits_of more)) (take (size - room) (drop room (bits_of more))) (replicate p.zeros false))
            ∙ ap (λ (b : List Bool). b ++ replicate p.zeros false) (sym (take-add room (size - room) (bits_of more)) ∙ ap (λ (n : ℕ). take n (bits_of more)) sum));
        few = p.few;
      })
  | inl short ↦ (
      let kept : List Bool = take size (bits_of more) in
      let none : size - room ≡ 0 = omega (arith, short) in
      let empty : take (size - room) (drop room (bits_of more)) ≡ [] = ap (λ (n : ℕ). take n (drop room (bits_of more))) none in
      let total : 8 * length tail ≡ 0 + p.zeros = packs_size tail (take (size - room) (drop room (bits_of more))) p ∙ ap (λ (b : List Bool). length b + p.zeros) empty in
      let zeros : p.zeros ≡ 0 = omega (arith, total, p.few) in
      let nothing : bits_of tail ≡ [] = p.same ∙ ap (λ (b : List Bool). b ++ replicate p.zeros false) empty ∙ ap (λ (n : ℕ). replicate n false) zeros in
      let kept_size : length kept ≡ size = length-kept more size m in
      let all : 8 * length more ≡ size + m.packs.zeros = packs_size more kept m.packs ∙ ap (λ (n : ℕ). n + m.packs.zeros) kept_size in
      let sum : length kept + (room - size) ≡ room = omega (arith, kept_size, short) in
      record {
        zeros = room - size;
        same =
            (ap (λ (b : List Bool). take room (bits_of more) ++ b) nothing
            ∙ append-nil (take room (bits_of more))
            ∙ ap (λ (b : List Bool). take room b) m.packs.same
            ∙ ap (λ (n : ℕ). take n (kept ++ replicate m.packs.zeros false)) (sym sum)
            ∙ take-append-add kept (replicate m.packs.zeros false) (room - size)
            ∙ ap (λ (b : List Bool). kept ++ b) (take-replicate (room - size) m.packs.zeros false (omega (arith, all, there))));
        few = omega (arith, few);
      })
]

-- bits put after an octet that isn't full
pub put_across : (octets more tail : List ℕ) (count size k used new : ℕ) → IsPacked octets count → IsPacked more size → count ≡ 8 * k + used → 0 < used → used < 8 → 0 < length more
    → octet_bits new ≡ take used (octet_bits (get_or octets k 0)) ++ take (8 - used) (octet_bits (get_or more 0 0))
    → Packs tail (take (size - (8 - used)) (drop (8 - used) (bits_of more)))
    → Packs (set (octets ++ tail) k new) (take count (bits_of octets) ++ take size (bits_of more))
put_across octets more tail count size k used new h m split some few there bits p =
    let all : List Bool = bits_of octets in
    let y : List Bool = octet_bits (get_or more 0 0) in
    let total : 8 * length octets ≡ count + h.packs.zeros = packs_size octets (take count all) h.packs ∙ ap (λ (n : ℕ). n + h.packs.zeros) (length-kept octets count h) in
    let end : length octets ≡ suc k = omega (arith, total, split, h.packs.few) in
    let cut : set (octets ++ tail) k new ≡ take k octets ++ new ∷ tail =
    set_split (octets ++ tail) k new (omega (arith, length-append octets tail, end))
    ∙ ap (λ (v : List ℕ). v ++ new ∷ drop (suc k) (octets ++ tail)) (take-append-le k octets tail (omega (arith, end)))
    ∙ ap (λ (v : List ℕ). take k octets ++ new ∷ v) (drop_at octets tail (suc k) end) in
    let f : FillsUp (take (8 - used) (bits_of more)) (bits_of tail) (take size (bits_of more)) = fills_up more tail size (8 - used) m (omega (arith, there)) (omega (arith, some)) p in
    let first : take (8 - used) (bits_of more) ≡ take (8 - used) y =
    ap (λ (b : List Bool). take (8 - used) b) (bits_at_octet more 0 there) ∙ take-append-le (8 - used) y (bits_of (drop 1 more)) (omega arith) in
    record {
      zeros = f.zeros;
      same =
          (ap bits_of cut
          ∙ bits_of-append (take k octets) (new ∷ tail)
          ∙ ap (λ (b : List Bool). b ++ (octet_bits new ++ bits_of tail)) (bits_of-take k octets (omega (arith, end)))
          ∙ ap (λ (b : List Bool). take (8 * k) all ++ (b ++ bits_of tail)) (bits ∙ ap (λ (b : List Bool). take used (octet_bits (get_or octets k 0)) ++ b) (sym first))
          ∙ ap (λ (b : List Bool). take (8 * k) all ++ b) (append_assoc (take used (octet_bits (get_or octets k 0))) (take (8 - used) (bits_of more)) (bits_of tail))
          ∙ sym (append_assoc (take (8 * k) all) (take used (octet_bits (get_or octets k 0))) (take (8 - used) (bits_of more) ++ bits_of tail))
          ∙ ap (λ (b : List Bool). b ++ (take (8 - used) (bits_of more) ++ bits_of tail)) (first_of_octet octets k used (omega (arith, end)) few ∙ ap (λ (n : ℕ). take n all) (sym split))
          ∙ ap (λ (b : List Bool). take count all ++ b) f.same
          ∙ sym (append_assoc (take count all) (take size (bits_of more)) (replicate f.zeros false)));
      few = f.few;
    }

-- the last octet cleared
pub cleared_last : (octets : List ℕ) (count k used new : ℕ) → length octets ≡ suc k → count ≡ 8 * k + used → 0 < used → used < 8
    → octet_bits new ≡ take used (octet_bits (get_or octets k 0)) ++ replicate (8 - used) false
    → Packs (set octets k new) (take count (bits_of octets))
cleared_last octets count k used new end split some few bits =
    let all : List Bool = bits_of octets in
    let x : List Bool = octet_bits (get_or octets k 0) in
    let cut : set octets k new ≡ take k octets ++ new ∷ [] =
    set_split octets k new (omega (arith, end)) ∙ ap (λ (v : List ℕ). take k octets ++ new ∷ v) (drop_all (suc k) octets (omega (arith, end))) in
    record {
      zeros = 8 - used;
      same =
          (ap bits_of cut
          ∙ bits_of-append (take k octets) (new ∷ [])
          ∙ ap (λ (b : List Bool). b ++ (octet_bits new ++ [])) (bits_of-take k octets (omega (arith, end)))
          ∙ ap (λ (b : List Bool). take (8 * k) all ++ b) (append-nil (octet_bits new) ∙ bits)
          ∙ sym (append_assoc (take (8 * k) all) (take used x) (replicate (8 - used) false))
          ∙ ap (λ (b : List Bool). b ++ replicate (8 - used) false) (first_of_octet octets k used (omega (arith, end)) few ∙ ap (λ (n : ℕ). take n all) (sym split)));
      few = omega (arith, some);
    }

-- whole octets are kept as they are
pub cleared_none : (octets : List ℕ) (count : ℕ) → length octets ≡ (count + 7) / 8 → count % 8 ≡ 0 → Packs octets (take count (bits_of octets))
cleared_none octets count end whole =
    let all : List Bool = bits_of octets in
    let size : count ≡ length all = omega (arith, end, whole, length-bits_of octets) in
    let same : take count all ≡ all = ap (λ (n : ℕ). take n all) size ∙ take-length all in
    record { zeros = 0; same = sym same ∙ sym (append-nil (take count all)); few = omega arith }

-- a part that begins with an octet
pub part_whole : (octets : List ℕ) (from count size : ℕ) → from % 8 ≡ 0 → count ≤ 8 * size → size ≤ length (drop (from / 8) octets)
    → take count (bits_of (take size (drop (from / 8) octets))) ≡ take count (drop from (bits_of octets))
part_whole octets from count size whole covered within =
    let at : 8 * (from / 8) ≡ from = omega (arith, whole) in
    let f : HasFirstBits (drop (from / 8) octets) count size = first_bits (drop (from / 8) octets) count size covered within in
    f.same ∙ ap (λ (b : List Bool). take count b) (bits_of-drop (from / 8) octets ∙ ap (λ (n : ℕ). drop n (bits_of octets)) at)

-- a part that begins within an octet
pub part_across : (octets : List ℕ) (from count size : ℕ) → from + count ≤ 8 * length octets → count ≤ 8 * size
    → take count (take (8 * size) (drop (from % 8) (bits_of (drop (from / 8) octets) ++ replicate 8 false))) ≡ take count (drop from (bits_of octets))
part_across octets from count size there covered =
    let at : 8 * (from / 8) + from % 8 ≡ from = omega arith in
    let rest : List Bool = bits_of (drop (from / 8) octets) in
    let size_of : length rest ≡ 8 * length octets - 8 * (from / 8) = omega (arith, length-bits_of (drop (from / 8) octets), length-drop (from / 8) octets) in
    let behind : drop (from % 8) rest ≡ drop from (bits_of octets) =
    ap (λ (b : List Bool). drop (from % 8) b) (bits_of-drop (from / 8) octets) ∙ drop-drop (from % 8) (8 * (from / 8)) (bits_of octets) ∙ ap (λ (n : ℕ). drop n (bits_of octets)) at in
    take-take count (8 * size) (drop (from % 8) (rest ++ replicate 8 false)) covered
    ∙ ap (λ (b : List Bool). take count b) (drop-append-le (from % 8) rest (replicate 8 false) (omega (arith, size_of, there)))
    ∙ take-append-le count (drop (from % 8) rest) (replicate 8 false) (omega (arith, size_of, there, length-drop (from % 8) rest))
    ∙ ap (λ (b : List Bool). take count b) behind

-- a list that is kept in some octets has bits
pub some_bits : (octets : List ℕ) (count : ℕ) → IsPacked octets count → 0 < length octets → 0 < count
some_bits octets count h some =
    let total : 8 * length octets ≡ count + h.packs.zeros = packs_size octets (take count (bits_of octets)) h.packs ∙ ap (λ (n : ℕ). n + h.packs.zeros) (length-kept octets count h) in
    omega (arith, total, h.packs.few)

-- what an answer with a value says
pub if_ok : {T E : Type 0} (P Q : T → Type 0) (r : Result T E) → IfOk r P → ((v : T) → P v → Q v) → IfOk r Q
if_ok P Q (Ok v) h f = f v h
if_ok P Q (Err e) h f = tt

pub keeps_packed : (octets : List ℕ) (count : ℕ) (bits : List Bool) → Keeps octets count bits → IsPacked octets count
keeps_packed octets count bits k = packed octets count bits k.size k.packs

pub keeps_view : (octets : List ℕ) (count : ℕ) (bits : List Bool) → Keeps octets count bits → take count (bits_of octets) ≡ bits
keeps_view octets count bits k = viewed octets count bits k.size k.packs

-- bits after a list that is kept
pub put_keeps : (octets new more : List ℕ) (count size total : ℕ) (front back : List Bool) → Keeps octets count front → Keeps more size back
    → Packs new (take count (bits_of octets) ++ take size (bits_of more)) → total ≡ count + size → Keeps new total (front ++ back)
put_keeps octets new more count size total front back f b p is =
    let P : List Bool → Type 0 = λ v. Packs new v in
    record {
      size = is ∙ ap (λ (n : ℕ). n + size) f.size ∙ ap (λ (n : ℕ). length front + n) b.size ∙ sym (length-append front back);
      packs = subst P (ap (λ (v : List Bool). v ++ take size (bits_of more)) (keeps_view octets count front f) ∙ ap (λ (v : List Bool). front ++ v) (keeps_view more size back b)) p;
    }

pub put_bit_keeps : (octets new : List ℕ) (count total : ℕ) (front : List Bool) (bit : Bool) → Keeps octets count front
    → Packs new (take count (bits_of octets) ++ bit ∷ []) → total ≡ count + 1 → Keeps new total (front ++ bit ∷ [])
put_bit_keeps octets new count total front bit f p is =
    let P : List Bool → Type 0 = λ v. Packs new (v ++ bit ∷ []) in
    record { size = is ∙ ap (λ (n : ℕ). n + 1) f.size ∙ sym (length-append front (bit ∷ [])); packs = subst P (keeps_view octets count front f) p }

-- a part of a list that is kept
pub part_keeps : (octets part : List ℕ) (count from to size : ℕ) (bits : List Bool) → Keeps octets count bits → from + size ≡ to → to ≤ count
    → Packs part (take size (drop from (bits_of octets))) → Keeps part size (drop from (take to bits))
part_keeps octets part count from to size bits k sum within p =
    let view : take count (bits_of octets) ≡ bits = keeps_view octets count bits k in
    let same : take size (drop from (bits_of octets)) ≡ drop from (take to bits) =
    part_of octets count from size (omega (arith, sum, within)) ∙ ap (λ (b : List Bool). drop from (take (from + size) b)) view ∙ ap (λ (n : ℕ). drop from (take n bits)) sum in
    let P : List Bool → Type 0 = λ v. Packs part v in
    let packs : Packs part (drop from (take to bits)) = subst P same p in
    record {
      size = (let whole : length bits ≡ count = sym k.size in sym (length-drop from (take to bits) ∙ ap (λ (n : ℕ). n - from) (length-take-le to bits (omega (arith, whole, within))) ∙ (let e : to - from ≡ size = omega (arith, sum) in e)));
      packs = packs;
    }

-- the octets of a part
pub part_octets : (octets part : List ℕ) (count from size : ℕ) (bits : List Bool) → Keeps octets count bits → from + size ≤ count → All (λ n. n < 256) part
    → Packs part (take size (drop from (bits_of octets))) → part ≡ octets_of (take size (drop from bits))
part_octets octets part count from size bits k within small p =
    packs_octets part (take size (drop from (bits_of octets))) small p
    ∙ ap octets_of (part_of octets count from size within ∙ ap (λ (b : List Bool). drop from (take (from + size) b)) (keeps_view octets count bits k) ∙ drop-take from size bits)

-- the first bits of octets that begin with a 1 and have zeros after it
pub mark_bits : (octets : List ℕ) (size count : ℕ) → bits_of octets ≡ true ∷ replicate size false → 0 < count → count ≤ size + 1
    → take count (bits_of octets) ≡ true ∷ replicate (count - 1) false
mark_bits octets size zero same some few = absurd (omega (arith, some))
mark_bits octets size (suc n) same some few =
    let rest : n ≡ suc n - 1 = omega arith in
    ap (λ (b : List Bool). take (suc n) b) same ∙ ap (λ (b : List Bool). true ∷ b) (take-replicate n size false (omega (arith, few))) ∙ ap (λ (k : ℕ). true ∷ replicate k false) rest

pub mark_packed : (octets : List ℕ) (size count : ℕ) → bits_of octets ≡ true ∷ replicate size false → 0 < count → count ≤ size + 1 → size < count + 7 → IsPacked octets count
mark_packed octets size count same some few much =
    let bits : take count (bits_of octets) ≡ true ∷ replicate (count - 1) false = mark_bits octets size count same some few in
    let size_of : size + 1 ≡ 8 * length octets = omega (arith, length-bits_of octets, ap length same, length-replicate size false) in
    let sum : count - 1 + (size + 1 - count) ≡ size = omega (arith, some, few) in
    record {
      within = omega (arith, few, size_of);
      packs = record {
        zeros = size + 1 - count;
        same =
            (same
            ∙ ap (λ (n : ℕ). true ∷ replicate n false) (sym sum)
            ∙ ap (λ (b : List Bool). true ∷ b) (sym (replicate-append-replicate (count - 1) (size + 1 - count) false))
            ∙ ap (λ (b : List Bool). b ++ replicate (size + 1 - count) false) (sym bits));
        few = omega (arith, some, few, much);
      };
    }

-- a text with its mark and zeros to the end of its last unit
pub pad_keeps : (octets new : List ℕ) (count padding total : ℕ) (text : List Bool) → Keeps octets count text → padding ≡ 16 - count % 16
    → Packs new (take count (bits_of octets) ++ true ∷ replicate (padding - 1) false) → total ≡ count + padding → Keeps new total (body text)
pad_keeps octets new count padding total text k unit p sum =
    let zeros : padding - 1 ≡ filling (length text) = omega (arith, unit, k.size) in
    let P : ℕ → Type 0 = λ n. Packs new (text ++ true ∷ replicate n false) in
    let Q : List Bool → Type 0 = λ v. Packs new (v ++ true ∷ replicate (padding - 1) false) in
    record {
      size = omega (arith, sum, unit, k.size, length-append text (true ∷ replicate (filling (length text)) false), length-replicate (filling (length text)) false);
      packs = subst P zeros (subst Q (keeps_view octets count text k) p);
    }

-- octets that keep bits are as many as these need
pub octets_needed : (octets : List ℕ) (count : ℕ) → IsPacked octets count → octets_for count ≡ length octets
octets_needed octets count h =
    let total : 8 * length octets ≡ count + h.packs.zeros = packs_size octets (take count (bits_of octets)) h.packs ∙ ap (λ (n : ℕ). n + h.packs.zeros) (length-kept octets count h) in
    omega (arith, total, h.packs.few)

-- what is stored of a list of bits
abbrev pub KeepsIn : Stored → List Bool → Type 0
KeepsIn s bits = Keeps s.octets s.len bits

-- the same number in other words
pub keeps_as : (octets : List ℕ) (count same : ℕ) (bits : List Bool) → same ≡ count → Keeps octets count bits → Keeps octets same bits
keeps_as octets count same bits e k = record { size = e ∙ k.size; packs = k.packs }

-- a part with octets has bits
pub some_part : (part : List ℕ) (bits : List Bool) (n : ℕ) → Packs part (take (8 * n) bits) → 0 < length part → 0 < n
some_part part bits zero p some = absurd (omega (arith, packs_size part [] p, p.few, some))
some_part part bits (suc n) p some = omega arith

-- what is before the mark of a list that is kept
pub record IsMarked (mark : ℕ) (bits : List Bool) : Type 0 where
  pub marked : has_mark bits ≡ true
  pub there : mark < length bits
  pub text : text_of bits ≡ take mark bits

-- zeros after a marked list change nothing
zeros_behind : (bits : List Bool) (zeros : ℕ) → has_mark bits ≡ true → IsStripped (text_of bits) (bits ++ replicate zeros false)
zeros_behind bits zeros marked =
    let s : IsSplit bits = split_text bits marked in
    let same : bits ++ replicate zeros false ≡ text_of bits ++ true ∷ replicate (s.zeros + zeros) false =
    (ap (λ (b : List Bool). b ++ replicate zeros false) s.padded
    ∙ append_assoc (text_of bits) (true ∷ replicate s.zeros false) (replicate zeros false)
    ∙ ap (λ (b : List Bool). text_of bits ++ true ∷ b) (replicate-append-replicate s.zeros zeros false)) in
    let P : List Bool → Type 0 = λ v. IsStripped (text_of bits) v in
    subst P (sym same) (stripped_padded (text_of bits) (s.zeros + zeros))

-- nor do they make a mark
no_mark : (bits : List Bool) (extra : ℕ) (b : Bool) → has_mark bits ≡ b → has_mark (bits ++ replicate extra false) ≡ false → b ≡ false
no_mark bits extra false is none = refl
no_mark bits extra true is none = let s : IsStripped (text_of bits) (bits ++ replicate extra false) = zeros_behind bits extra is in absurd (cc)

own_mark : (bits : List Bool) (extra : ℕ) (b : Bool) → has_mark bits ≡ b → has_mark (bits ++ replicate extra false) ≡ true → b ≡ true
own_mark bits extra true is marked = refl
own_mark bits extra false is marked = let none : has_mark (bits ++ replicate extra false) ≡ false = unmarked_behind bits extra is in absurd (cc)

pub strip_marked : (octets : List ℕ) (count mark : ℕ) (bits : List Bool) → Keeps octets count bits → has_mark (bits_of octets) ≡ true → mark < 8 * length octets
    → text_of (bits_of octets) ≡ take mark (bits_of octets) → IsMarked mark bits
strip_marked octets count mark bits k marked there text =
    let p : Packs octets bits = k.packs in
    let own : has_mark bits ≡ true = own_mark bits p.zeros (has_mark bits) refl (sym (ap has_mark p.same) ∙ marked) in
    let s : IsStripped (text_of bits) (bits ++ replicate p.zeros false) = zeros_behind bits p.zeros own in
    let same : text_of bits ≡ take mark (bits_of octets) = sym (ap text_of p.same ∙ s.before) ∙ text in
    let size : length (text_of bits) ≡ mark = ap length same ∙ length-take-le mark (bits_of octets) (omega (arith, there, length-bits_of octets)) in
    let split : IsSplit bits = split_text bits own in
    let total : length bits ≡ length (text_of bits) + (1 + split.zeros) =
    ap length split.padded ∙ length-append (text_of bits) (true ∷ replicate split.zeros false) ∙ ap (λ (n : ℕ). length (text_of bits) + suc n) (length-replicate split.zeros false) ∙ (omega arith) in
    let within : mark < length bits = omega (arith, size, total) in
    record {
      marked = own;
      there = within;
      text =
          (same ∙ ap (λ (b : List Bool). take mark b) p.same ∙ take-append-le mark bits (replicate p.zeros false) (omega (arith, within)));
    }

pub strip_unmarked : (octets : List ℕ) (count : ℕ) (bits : List Bool) → Keeps octets count bits → has_mark (bits_of octets) ≡ false → has_mark bits ≡ false
strip_unmarked octets count bits k none = let p : Packs octets bits = k.packs in no_mark bits p.zeros (has_mark bits) refl (sym (ap has_mark p.same) ∙ none)

-- lists of bits are equal where their octets are
same_bits : (xs ys : List Bool) → pointwise beq xs ys ≡ true → xs ≡ ys
same_bits [] [] e = refl
same_bits [] (y ∷ ys) e = absurd (cc)
same_bits (x ∷ xs) [] e = absurd (cc)
same_bits (true ∷ xs) (true ∷ ys) e = ap (λ (b : List Bool). true ∷ b) (same_bits xs ys e)
same_bits (true ∷ xs) (false ∷ ys) e = absurd (cc)
same_bits (false ∷ xs) (true ∷ ys) e = absurd (cc)
same_bits (false ∷ xs) (false ∷ ys) e = ap (λ (b : List Bool). false ∷ b) (same_bits xs ys e)

own_bits : (xs : List Bool) → pointwise beq xs xs ≡ true
own_bits [] = refl
own_bits (true ∷ xs) = own_bits xs
own_bits (false ∷ xs) = own_bits xs

other_bits : (xs ys : List Bool) (b : Bool) → pointwise beq xs ys ≡ b → (xs ≡ ys → ⊥) → false ≡ pointwise beq xs ys
other_bits xs ys true e other = absurd (other (same_bits xs ys e))
other_bits xs ys false e other = sym e

pub differ_by_length : (xs ys : List Bool) → (length xs ≡ length ys → ⊥) → false ≡ pointwise beq xs ys
differ_by_length xs ys other = other_bits xs ys (pointwise beq xs ys) refl (λ e. other (ap length e))

read_back : (bits : List Bool) → take (length bits) (bits_of (octets_of bits)) ≡ bits
read_back bits = ap (λ (b : List Bool). take (length bits) b) (bits_again bits) ∙ take_at bits (replicate (spare_bits (length bits)) false) (length bits) refl

pub same_by_octets : (r : Bool) (xs ys : List Bool) (front back : List ℕ) → front ≡ octets_of xs → back ≡ octets_of ys → length xs ≡ length ys
    → r ≡ pointwise nat_eq front back → r ≡ pointwise beq xs ys
same_by_octets true xs ys front back ours theirs sizes is =
    let same : front ≡ back = same_text front back is in
    let bits : xs ≡ ys =
    (sym (read_back xs) ∙ ap (λ (v : List ℕ). take (length xs) (bits_of v)) (sym ours ∙ same ∙ theirs) ∙ ap (λ (n : ℕ). take n (bits_of (octets_of ys))) sizes ∙ read_back ys) in
    sym (ap (λ (b : List Bool). pointwise beq xs b) (sym bits) ∙ own_bits xs)
same_by_octets false xs ys front back ours theirs sizes is =
    other_bits xs ys (pointwise beq xs ys) refl (λ e. other_text front back is (ours ∙ ap octets_of e ∙ sym theirs))

-- octets that fit are all below 256
pub all_fit : (octets : List ℕ) → ((i : ℕ) → Fits w8 (get_or octets i 0)) → All (λ n. n < 256) octets
all_fit octets fits = λ k d lt. (let read : get_or octets k d ≡ get_or octets k 0 = get_or_default_zero octets k d lt in let fit : get_or octets k 0 < 256 = (fits k).fits in omega (arith, read, fit))

pub keeps_along : (octets same : List ℕ) (count : ℕ) (bits : List Bool) → octets ≡ same → Keeps octets count bits → Keeps same count bits
keeps_along octets same count bits e k = let P : List ℕ → Type 0 = λ ns. Keeps ns count bits in subst P e k

-- what an answer with a value says
pub if_some : {T : Type 0} (P Q : T → Type 0) (r : Option T) → IfSome r P → ((v : T) → P v → Q v) → IfSome r Q
if_some P Q (Some v) h f = f v h
if_some P Q None h f = tt

-- the digits of an octet
digit : (n place : ℕ) → place < 8 → get_or (octet_bits n) place false ≡ (n / 2 ^ (7 - place) % 2 == 1)
digit n zero few = refl
digit n (suc zero) few = refl
digit n (suc (suc zero)) few = refl
digit n (suc (suc (suc zero))) few = refl
digit n (suc (suc (suc (suc zero)))) few = refl
digit n (suc (suc (suc (suc (suc zero))))) few = refl
digit n (suc (suc (suc (suc (suc (suc zero)))))) few = refl
digit n (suc (suc (suc (suc (suc (suc (suc zero))))))) few = (let e : n ≡ n / 1 = omega arith in ap (λ (v : ℕ). v % 2 == 1) e)
digit n (suc (suc (suc (suc (suc (suc (suc (suc place)))))))) few = absurd (omega arith)

-- the bit at a place within an octet
place_in : (octets : List ℕ) (k r : ℕ) → k < length octets → r < 8 → get_or (bits_of octets) (8 * k + r) false ≡ (get_or octets k 0 / 2 ^ (7 - r) % 2 == 1)
place_in octets k r there few = sym (cell_at octets k r there few) ∙ digit (get_or octets k 0) r few

-- an octet that is zero, before zeros
pub zero_octet : (octets : List ℕ) (k : ℕ) → k < length octets → get_or octets k 0 ≡ 0 → HasZerosFrom (8 * suc k) (bits_of octets) → HasZerosFrom (8 * k) (bits_of octets)
zero_octet octets k there zero_is h = record {
  within = omega (arith, h.within);
  zeros = λ i from to. elim (cases_lt i (8 * suc k)) [
    | inl inside ↦ (
        let at : 8 * k + (i - 8 * k) ≡ i = omega (arith, from) in
        let few : i - 8 * k < 8 = omega (arith, inside) in
        sym (ap (λ (n : ℕ). get_or (bits_of octets) n false) at)
        ∙ place_in octets k (i - 8 * k) there few
        ∙ ap (λ (n : ℕ). n / 2 ^ (7 - (i - 8 * k)) % 2 == 1) zero_is
        ∙ (let none : 0 / 2 ^ (7 - (i - 8 * k)) ≡ 0 = zero-div (2 ^ (7 - (i - 8 * k))) in ap (λ (n : ℕ). n % 2 == 1) none))
    | inr behind ↦ h.zeros i behind to
  ];
}

-- the last one of an octet that isn't zero, before zeros
pub last_one_is : (octets : List ℕ) (k : ℕ) → k < length octets → (get_or octets k 0 ≡ 0 → ⊥) → get_or octets k 0 < 256 → HasZerosFrom (8 * suc k) (bits_of octets)
    → (8 * k + 7 - trailing_zeros w8 (get_or octets k 0) < 8 * length octets) × IsMarkedAt (8 * k + 7 - trailing_zeros w8 (get_or octets k 0)) (bits_of octets)
last_one_is octets k there some small h =
    let n : ℕ = get_or octets k 0 in
    let t : ℕ = trailing_zeros w8 (get_or octets k 0) in
    let low = bit_at-trailing_zeros w8 (get_or octets k 0) (omega (arith, some)) small in
    let few : trailing_zeros w8 (get_or octets k 0) < 8 = low.0 in
    let at : 8 * k + (7 - trailing_zeros w8 (get_or octets k 0)) ≡ 8 * k + 7 - trailing_zeros w8 (get_or octets k 0) = omega (arith, few) in
    let back : 7 - (7 - trailing_zeros w8 (get_or octets k 0)) ≡ trailing_zeros w8 (get_or octets k 0) = omega (arith, few) in
    let one : get_or (bits_of octets) (8 * k + 7 - trailing_zeros w8 (get_or octets k 0)) false ≡ true =
    (sym (ap (λ (i : ℕ). get_or (bits_of octets) i false) at)
    ∙ place_in octets k (7 - trailing_zeros w8 (get_or octets k 0)) there (omega arith)
    ∙ ap (λ (i : ℕ). get_or octets k 0 / 2 ^ i % 2 == 1) back
    ∙ eq-eqb (get_or octets k 0 / 2 ^ trailing_zeros w8 (get_or octets k 0) % 2) 1 low.1) in
    let after : HasZerosFrom (suc (8 * k + 7 - trailing_zeros w8 (get_or octets k 0))) (bits_of octets) = record {
      within = omega (arith, length-bits_of octets, there, few);
      zeros = λ i from to. elim (cases_lt i (8 * suc k)) [
        | inl inside ↦ (
            let here : 8 * k + (i - 8 * k) ≡ i = omega (arith, from, few) in
            let within : i - 8 * k < 8 = omega (arith, inside) in
            let lower : 7 - (i - 8 * k) < trailing_zeros w8 (get_or octets k 0) = omega (arith, from, few, inside) in
            sym (ap (λ (j : ℕ). get_or (bits_of octets) j false) here)
            ∙ place_in octets k (i - 8 * k) there within
            ∙ ap (λ (v : ℕ). v == 1) (low.2 (7 - (i - 8 * k)) lower))
        | inr behind ↦ h.zeros i behind to
      ];
    } in
    let lt : 8 * k + 7 - trailing_zeros w8 (get_or octets k 0) < 8 * length octets = omega (arith, there) in
    (lt, marked_at (8 * k + 7 - trailing_zeros w8 (get_or octets k 0)) (bits_of octets) (omega (arith, lt, length-bits_of octets)) one after)

-- what an answer with a fault says
pub match_err : {T E : Type 0} (P : T → Type 0) (Q : E → Type 0) (r : Result T E) → IsErr r → ((e : E) → Q e) → MatchResult r P Q
match_err P Q (Ok v) h f = absurd (cc)
match_err P Q (Err e) h f = f e

-- what holds anyway holds after a fault
pub on_fault : {T E P : Type 0} (r : Result T E) → P → OnErr r P
on_fault (Ok v) p = tt
on_fault (Err e) p = p
