-- Packets and their octets, both ways.
use Rattle.std.proofs.Common.{◌≡◌, ℕ, ◌+◌, ◌*◌, ◌/◌, ◌%◌, ◌<◌, ◌≤◌, Bool, true, false, not, List, ◌∷◌, ◌++◌, length, get_or, take, drop, refl, ap, sym, ◌∙◌, subst, arith, All, suc, replicate, append-nil, nat_lt, nat_le, ◌==◌, ◌||◌, ◌&&◌, eq-eqb, ne_eqb, eqb-true, le-ltb, inl, inr, zero, Result, Ok, Err, if◌then◌else◌, length-drop}
use Rattle.std.proofs.lemmas.Bool.{leb-true, cases_Bool, cases_lt, or_from}
use Rattle.std.proofs.lemmas.List.Elements.{All-from_get_or}
use Rattle.std.proofs.lemmas.Bool.Decides.{nat_tests}
use Rattle.std.proofs.lemmas.List.{length-take-le, take_all, get_or_past, drop_more, get_or-drop}
use Rattle.bit_messages.specs.Octets.{octets_of, bits_of, spare_bits}
use Rattle.bit_messages.proofs.lemmas.{bits_again, length-bits_of, octets_again}
use Rattle.interface.specs.Host.{Host, address_octet}
use Rattle.interface.proofs.lemmas.{not_false}
use Rattle.packetiser.specs.PacketFields.{PacketFields, IsPacket, IsPacketHost, IsPiece, IsAnswer, Carries}
use Rattle.packetiser.specs.Limits.{header_octets}
use Rattle.packetiser.specs.Format.{spelling, read_of, kind_octet, kind_of, host_of, is_address, is_short, is_not_canonical, is_bad_length, two_octets, bit_count, octet_count, is_data, is_last, place_of, place_octet, fields_of, kind_at, source_at, destination_at, link_at, number_at, place_at, count_at}
use Rattle.packetiser.specs.declared.packet.PacketKind.{PacketKind}
use Rattle.packetiser.specs.declared.packet.PacketKind.TheVariants as kind
use Rattle.packetiser.specs.declared.fault.PacketFault.{PacketFault}
use Rattle.packetiser.specs.declared.fault.PacketFault.TheVariants as fault

-- ---- what the tests say

pub record IsLong (octets : List ℕ) : Type 0 where
  pub header : header_octets ≤ length octets
  pub body : octet_count (bit_count octets) ≤ length octets

pub long_from : (octets : List ℕ) → is_short octets ≡ false → IsLong octets
unfolding is_short
long_from octets e = record { header = grind (arith, nat_tests, e); body = grind (arith, nat_tests, e) }

pub record IsCanonical (octets : List ℕ) : Type 0 where
  pub kind : get_or octets kind_at 0 ≤ 4
  pub source : is_address (get_or octets source_at 0) ≡ true
  pub destination : is_address (get_or octets destination_at 0) ≡ true
  pub gap : get_or octets place_at 0 / 8 % 16 ≡ 0
  pub end : place_of octets + 1 ≡ 8 → is_last octets ≡ true
  pub answer : is_data octets ≡ false → get_or octets place_at 0 ≡ 128
  pub whole : length octets ≤ octet_count (bit_count octets)

seven : (a b c d e f g : Bool) → (a || b || c || d || e || f || g) ≡ false
    → (a ≡ false) × (b ≡ false) × (c ≡ false) × (d ≡ false) × (e ≡ false) × (f ≡ false) × (g ≡ false)
seven false false false false false false g h = (refl, refl, refl, refl, refl, refl, h)
seven true b c d e f g h = absurd (cc)
seven false true c d e f g h = absurd (cc)
seven false false true d e f g h = absurd (cc)
seven false false false true e f g h = absurd (cc)
seven false false false false true f g h = absurd (cc)
seven false false false false false true g h = absurd (cc)

-- of two that aren't both so
not_both : (a b : Bool) → (not a && b) ≡ false → b ≡ true → a ≡ true
not_both true b e t = refl
not_both false true e t = absurd (cc)
not_both false false e t = absurd (cc)

not_both_not : (a b : Bool) → (not a && not b) ≡ false → a ≡ false → b ≡ true
not_both_not true b e f = absurd (cc)
not_both_not false true e f = refl
not_both_not false false e f = absurd (cc)

pub canonical_from : (octets : List ℕ) → is_not_canonical octets ≡ false → IsCanonical octets
unfolding is_not_canonical
canonical_from octets e =
    let f = seven
    (nat_lt 4 (get_or octets kind_at 0)) (not (is_address (get_or octets source_at 0))) (not (is_address (get_or octets destination_at 0)))
    (not (get_or octets place_at 0 / 8 % 16 == 0)) (not (is_last octets) && place_of octets + 1 == 8)
    (not (is_data octets) && not (get_or octets place_at 0 == 128)) (nat_lt (octet_count (bit_count octets)) (length octets)) e in
    record {
      kind = grind (arith, nat_tests, f.0);
      source = not_false (is_address (get_or octets source_at 0)) f.1;
      destination = not_false (is_address (get_or octets destination_at 0)) f.2;
      gap = eqb-true (get_or octets place_at 0 / 8 % 16) 0 (not_false (get_or octets place_at 0 / 8 % 16 == 0) f.3);
      end = λ k. not_both (is_last octets) (place_of octets + 1 == 8) f.4 (eq-eqb (place_of octets + 1) 8 k);
      answer = λ d. eqb-true (get_or octets place_at 0) 128 (not_both_not (is_data octets) (get_or octets place_at 0 == 128) f.5 d);
      whole = grind (arith, nat_tests, f.6);
    }

-- a good number of bits, of a piece or of an answer
pub record IsGoodCount (piece last : Bool) (count : ℕ) : Type 0 where
  pub some : piece ≡ true → 0 < count
  pub most : piece ≡ true → count ≤ 1008
  pub units : piece ≡ true → count % 16 ≡ 0
  pub full : piece ≡ true → last ≡ false → count ≡ 1008
  pub empty : piece ≡ false → count ≡ 0

piece_length : (last : Bool) (count : ℕ) → (count == 0 || nat_lt 1008 count || not (count % 16 == 0) || not last && not (count == 1008)) ≡ false
    → IsGoodCount true last count
piece_length last count e = record {
  some = λ _. grind (arith, nat_tests, e);
  most = λ _. grind (arith, nat_tests, e);
  units = λ _. grind (arith, nat_tests, e);
  full = λ _ f. grind (arith, nat_tests, e, f);
  empty = λ f. absurd (cc);
}

good_by : (piece last : Bool) (count : ℕ)
    → (if piece then count == 0 || nat_lt 1008 count || not (count % 16 == 0) || not last && not (count == 1008) else not (count == 0)) ≡ false
    → IsGoodCount piece last count
good_by true last count e = piece_length last count e
good_by false last count e = record {
  some = λ f. absurd (cc);
  most = λ f. absurd (cc);
  units = λ f. absurd (cc);
  full = λ f _. absurd (cc);
  empty = λ _. eqb-true count 0 (not_false (count == 0) e);
}

good_from : (octets : List ℕ) → is_bad_length octets ≡ false → IsGoodCount (is_data octets) (is_last octets) (bit_count octets)
unfolding is_bad_length
good_from octets e =
    good_by (is_data octets) (is_last octets) (bit_count octets) e

-- the three tests of octets, where none of them refuses
pub record SpellsPacket (octets : List ℕ) : Type 0 where
  pub long : IsLong octets
  pub canonical : IsCanonical octets
  pub good : IsGoodCount (is_data octets) (is_last octets) (bit_count octets)

pub packet_from : (octets : List ℕ) → is_short octets ≡ false → is_not_canonical octets ≡ false → is_bad_length octets ≡ false → SpellsPacket octets
packet_from octets long canonical good = record { long = long_from octets long; canonical = canonical_from octets canonical; good = good_from octets good }

-- ---- what is read is a packet

address_is : (octet : ℕ) → octet < 256 → is_address octet ≡ true → IsPacketHost (host_of octet)
address_is octet small e = record { some = grind (arith, nat_tests, e); imp = grind (arith, nat_tests, e); host = omega arith }

carries_by : (a b c d : Bool) (place : ℕ) (last : Bool) (size : ℕ) → (a ≡ true → IsPiece place last size) → (a ≡ false → IsAnswer place last size)
    → Carries (if a then kind.Data else (if b then kind.Rfnm else (if c then kind.Dead else (if d then kind.Ask else kind.Never)))) place last size
carries_by true b c d place last size piece answer = piece refl
carries_by false true c d place last size piece answer = answer refl
carries_by false false true d place last size piece answer = answer refl
carries_by false false false true place last size piece answer = answer refl
carries_by false false false false place last size piece answer = answer refl

-- the bits that are read are as many as the octets say
length-read : (octets : List ℕ) → IsLong octets → length (take (bit_count octets) (bits_of (drop header_octets octets))) ≡ bit_count octets
length-read octets h =
    let enough : bit_count octets ≤ length (bits_of (drop header_octets octets)) = omega (arith, length-bits_of (drop header_octets octets), length-drop header_octets octets, h.header, h.body) in
    length-take-le (bit_count octets) (bits_of (drop header_octets octets)) enough

-- eight bits are an octet
units_of_eight : (octets : List ℕ) → SpellsPacket octets → bit_count octets % 8 ≡ 0
units_of_eight octets h = elim (cases_Bool (is_data octets)) [
  | inl piece ↦ (let units : bit_count octets % 16 ≡ 0 = h.good.units piece in omega arith)
  | inr answer ↦ (let none : bit_count octets ≡ 0 = h.good.empty answer in omega arith)
]

pub fields_fit : (octets : List ℕ) → ((k : ℕ) → get_or octets k 0 < 256) → SpellsPacket octets → IsPacket (fields_of octets)
fields_fit octets small h =
    let size : length (take (bit_count octets) (bits_of (drop header_octets octets))) ≡ bit_count octets = length-read octets h.long in
    record {
      source = address_is (get_or octets source_at 0) (small source_at) h.canonical.source;
      destination = address_is (get_or octets destination_at 0) (small destination_at) h.canonical.destination;
      link = small link_at;
      number = let high : get_or octets number_at 0 < 256 = small number_at in let low : get_or octets (number_at + 1) 0 < 256 = small (number_at + 1) in omega (arith, high, low);
      place = omega arith;
      body =
          rw size (carries_by (is_data octets) (get_or octets kind_at 0 == 1) (get_or octets kind_at 0 == 2) (get_or octets kind_at 0 == 3) (place_of octets) (is_last octets) (bit_count octets)
          (λ d. record { some = h.good.some d; most = h.good.most d; units = h.good.units d; full = h.good.full d; end = h.canonical.end })
          (λ d. let mark : get_or octets place_at 0 ≡ 128 = h.canonical.answer d in record { first = omega (arith, mark); only = grind (arith, nat_tests, mark); empty = h.good.empty d }));
    }

kind_again : (octet : ℕ) → octet ≤ 4 → kind_octet (kind_of octet) ≡ octet
kind_again zero le = refl
kind_again (suc zero) le = refl
kind_again (suc (suc zero)) le = refl
kind_again (suc (suc (suc zero))) le = refl
kind_again (suc (suc (suc (suc zero)))) le = refl
kind_again (suc (suc (suc (suc (suc n))))) le = absurd (omega arith)

place_again : (octet : ℕ) → octet < 256 → octet / 8 % 16 ≡ 0 → place_octet (octet % 8) (nat_le 128 octet) ≡ octet
place_again octet small gap = elim (cases_Bool (nat_le 128 octet)) [
  | inl last ↦ (let above : 128 ≤ octet = leb-true 128 octet last in rw last (omega arith))
  | inr more ↦ (let below : octet < 128 = grind (arith, nat_tests, more) in rw more (omega arith))
]

-- the two octets of a number: what they say is spelled as they are, and a number that is spelled so is said again
two_spelled : (high low n : ℕ) → low < 256 → n ≡ 256 * high + low → (high ≡ n / 256) × (low ≡ n % 256)
two_spelled high low n small is = (omega arith, omega arith)

two_again : (n : ℕ) → 256 * (n / 256) + n % 256 ≡ n
two_again n = omega arith

address_spelled : (octet : ℕ) → octet ≡ address_octet (host_of octet)
address_spelled octet = omega arith

-- a list from one of its cells on
cell : (octets : List ℕ) (k : ℕ) (rest : List ℕ) → k < length octets → drop (k + 1) octets ≡ rest → drop k octets ≡ get_or octets k 0 ∷ rest
cell octets k rest there is = drop_more octets k 0 there ∙ ap (λ (others : List ℕ). get_or octets k 0 ∷ others) is

-- octets with a header, as the octets of the header and those that follow
header_cells : (octets : List ℕ) → header_octets ≤ length octets
    → octets ≡ get_or octets kind_at 0 ∷ get_or octets source_at 0 ∷ get_or octets destination_at 0 ∷ get_or octets link_at 0 ∷ get_or octets number_at 0
    ∷ get_or octets (number_at + 1) 0 ∷ get_or octets place_at 0 ∷ get_or octets count_at 0 ∷ get_or octets (count_at + 1) 0 ∷ drop header_octets octets
header_cells octets long =
    cell octets 0 _ (omega arith) (cell octets 1 _ (omega arith) (cell octets 2 _ (omega arith) (cell octets 3 _ (omega arith) (cell octets 4 _ (omega arith)
    (cell octets 5 _ (omega arith) (cell octets 6 _ (omega arith) (cell octets 7 _ (omega arith) (cell octets 8 _ (omega arith) refl))))))))

same_octets : {a b c d e f g h i a' b' c' d' e' f' g' h' i' : ℕ} {rest rest' : List ℕ}
    → a ≡ a' → b ≡ b' → c ≡ c' → d ≡ d' → e ≡ e' → f ≡ f' → g ≡ g' → h ≡ h' → i ≡ i' → rest ≡ rest'
    → a ∷ b ∷ c ∷ d ∷ e ∷ f ∷ g ∷ h ∷ i ∷ rest ≡ a' ∷ b' ∷ c' ∷ d' ∷ e' ∷ f' ∷ g' ∷ h' ∷ i' ∷ rest'
same_octets pa pb pc pd pe pf pg ph pi pr = cc

pub spelled : (octets : List ℕ) → ((k : ℕ) → get_or octets k 0 < 256) → SpellsPacket octets → octets ≡ spelling (fields_of octets)
spelled octets small h =
    let rest : List ℕ = drop header_octets octets in
    let count : ℕ = bit_count octets in
    let size : length (take count (bits_of rest)) ≡ count = length-read octets h.long in
    let eights : count % 8 ≡ 0 = units_of_eight octets h in
    let all : count ≡ length (bits_of rest) = omega (arith, length-bits_of rest, length-drop header_octets octets, h.long.header, h.long.body, h.canonical.whole) in
    let bits : take count (bits_of rest) ≡ bits_of rest = ap (λ (m : ℕ). take m (bits_of rest)) all ∙ take_all (length (bits_of rest)) (bits_of rest) (omega arith) in
    let all_small : All (λ (m : ℕ). m < 256) rest =
    All-from_get_or (λ (m : ℕ). m < 256) rest 0 (λ i lt. subst (λ (m : ℕ). m < 256) (sym (get_or-drop header_octets octets i 0)) (small (header_octets + i))) in
    let number : (get_or octets number_at 0 ≡ two_octets octets number_at / 256) × (get_or octets (number_at + 1) 0 ≡ two_octets octets number_at % 256) =
    two_spelled (get_or octets number_at 0) (get_or octets (number_at + 1) 0) (two_octets octets number_at) (small (number_at + 1)) refl in
    let bit_number : (get_or octets count_at 0 ≡ length (take count (bits_of rest)) / 256) × (get_or octets (count_at + 1) 0 ≡ length (take count (bits_of rest)) % 256) =
    two_spelled (get_or octets count_at 0) (get_or octets (count_at + 1) 0) (length (take count (bits_of rest))) (small (count_at + 1)) size in
    header_cells octets h.long.header
    ∙ same_octets (sym (kind_again (get_or octets kind_at 0) h.canonical.kind)) (address_spelled (get_or octets source_at 0)) (address_spelled (get_or octets destination_at 0)) refl
    number.0 number.1
    (sym (place_again (get_or octets place_at 0) (small place_at) h.canonical.gap))
    bit_number.0 bit_number.1
    (sym (ap octets_of bits ∙ octets_again rest all_small))

-- ---- what is written is read again

-- what the place octet holds
record HoldsPlace (place : ℕ) (last : Bool) : Type 0 where
  pub low : place_octet place last % 8 ≡ place
  pub high : nat_le 128 (place_octet place last) ≡ last
  pub gap : place_octet place last / 8 % 16 ≡ 0

place_held : (place : ℕ) (last : Bool) → place < 8 → HoldsPlace place last
place_held place true lt = record { low = omega arith; high = grind (arith, nat_tests); gap = omega arith }
place_held place false lt = record { low = omega arith; high = grind (arith, nat_tests); gap = omega arith }

-- the octets of whole octets of bits
record AreOctets (bits : List Bool) : Type 0 where
  pub again : bits_of (octets_of bits) ≡ bits
  pub count : 8 * length (octets_of bits) ≡ length bits

octets_are : (bits : List Bool) → length bits % 8 ≡ 0 → AreOctets bits
octets_are bits eights =
    let spare : spare_bits (length bits) ≡ 0 = omega (arith, eights) in
    let again : bits_of (octets_of bits) ≡ bits = bits_again bits ∙ ap (λ (n : ℕ). bits ++ replicate n false) spare ∙ append-nil bits in
    record { again = again; count = sym (length-bits_of (octets_of bits)) ∙ ap length again }

-- what a packet's kind says of the number of its bits
record HasSize (p : PacketFields) : Type 0 where
  pub eights : length p.bits % 8 ≡ 0
  pub most : length p.bits ≤ 1008

size_by : (k : PacketKind) (place : ℕ) (last : Bool) (size : ℕ) → Carries k place last size → (size % 8 ≡ 0) × (size ≤ 1008)
size_by kind.Data place last size h = (let units : size % 16 ≡ 0 = h.units in omega arith, h.most)
size_by kind.Rfnm place last size h = (let empty : size ≡ 0 = h.empty in omega arith, let empty : size ≡ 0 = h.empty in omega arith)
size_by kind.Dead place last size h = (let empty : size ≡ 0 = h.empty in omega arith, let empty : size ≡ 0 = h.empty in omega arith)
size_by kind.Ask place last size h = (let empty : size ≡ 0 = h.empty in omega arith, let empty : size ≡ 0 = h.empty in omega arith)
size_by kind.Never place last size h = (let empty : size ≡ 0 = h.empty in omega arith, let empty : size ≡ 0 = h.empty in omega arith)

none_of_seven : (a b c d e f g : Bool) → a ≡ false → b ≡ false → c ≡ false → d ≡ false → e ≡ false → f ≡ false → g ≡ false
    → (a || b || c || d || e || f || g) ≡ false
none_of_seven a b c d e f g ea eb ec ed ee ef eg = rw (ea, eb, ec, ed, ee, ef, eg) refl

none_of_four : (a b c d : Bool) → a ≡ false → b ≡ false → c ≡ false → d ≡ false → (a || b || c || d) ≡ false
none_of_four a b c d ea eb ec ed = rw (ea, eb, ec, ed) refl

long_again : (p : PacketFields) → IsPacket p → is_short (spelling p) ≡ false
unfolding is_short
long_again p h =
    let size : (length p.bits % 8 ≡ 0) × (length p.bits ≤ 1008) = size_by p.kind p.place p.last (length p.bits) h.body in
    let o : AreOctets p.bits = octets_are p.bits size.0 in
    or_from (nat_lt (length (spelling p)) header_octets) (nat_lt (length (spelling p)) (octet_count (bit_count (spelling p))))
    (grind (arith, nat_tests)) (grind (arith, nat_tests, o.count, size.0))

kind_small : (k : PacketKind) → kind_octet k ≤ 4
kind_small kind.Data = omega arith
kind_small kind.Rfnm = omega arith
kind_small kind.Dead = omega arith
kind_small kind.Ask = omega arith
kind_small kind.Never = omega arith

address_again : (a : Host) → IsPacketHost a → is_address (address_octet a) ≡ true
address_again a h =
    let number : address_octet a % 64 ≡ a.imp = omega (arith, h.imp) in
    rw number (grind (arith, nat_tests, h.some, h.imp))

-- the greatest place is a last one's
end_as : (k : PacketKind) (place : ℕ) (last : Bool) (size : ℕ) → Carries k place last size → (not last && place + 1 == 8) ≡ false
end_as k place true size h = refl
end_as kind.Data place false size h = ne_eqb (place + 1) 8 (λ e. let no : false ≡ true = h.end e in absurd (cc))
end_as kind.Rfnm place false size h = let no : false ≡ true = h.only in absurd (cc)
end_as kind.Dead place false size h = let no : false ≡ true = h.only in absurd (cc)
end_as kind.Ask place false size h = let no : false ≡ true = h.only in absurd (cc)
end_as kind.Never place false size h = let no : false ≡ true = h.only in absurd (cc)

answer_as : (k : PacketKind) (place : ℕ) (last : Bool) (size : ℕ) → Carries k place last size → (not (kind_octet k == 0) && not (place_octet place last == 128)) ≡ false
answer_as kind.Data place last size h = refl
answer_as kind.Rfnm place last size h = rw (h.first, h.only) refl
answer_as kind.Dead place last size h = rw (h.first, h.only) refl
answer_as kind.Ask place last size h = rw (h.first, h.only) refl
answer_as kind.Never place last size h = rw (h.first, h.only) refl

canonical_again : (p : PacketFields) → IsPacket p → is_not_canonical (spelling p) ≡ false
unfolding is_not_canonical
canonical_again p h =
    let size : (length p.bits % 8 ≡ 0) × (length p.bits ≤ 1008) = size_by p.kind p.place p.last (length p.bits) h.body in
    let o : AreOctets p.bits = octets_are p.bits size.0 in
    let held : HoldsPlace p.place p.last = place_held p.place p.last h.place in
    let octets : List ℕ = spelling p in
    none_of_seven
    (nat_lt 4 (get_or octets kind_at 0)) (not (is_address (get_or octets source_at 0))) (not (is_address (get_or octets destination_at 0)))
    (not (get_or octets place_at 0 / 8 % 16 == 0)) (not (is_last octets) && place_of octets + 1 == 8)
    (not (is_data octets) && not (get_or octets place_at 0 == 128)) (nat_lt (octet_count (bit_count octets)) (length octets))
    (let small : kind_octet p.kind ≤ 4 = kind_small p.kind in grind (arith, nat_tests))
    (ap not (address_again p.source h.source))
    (ap not (address_again p.destination h.destination))
    (ap not (eq-eqb (place_octet p.place p.last / 8 % 16) 0 held.gap))
    (rw (held.high, held.low) (end_as p.kind p.place p.last (length p.bits) h.body))
    (answer_as p.kind p.place p.last (length p.bits) h.body)
    (grind (arith, nat_tests, o.count, size.0))

good_as : (k : PacketKind) (place : ℕ) (last : Bool) (size : ℕ) → Carries k place last size → (if kind_octet k == 0 then size == 0 || nat_lt 1008 size || not (size % 16 == 0) || not last && not (size == 1008) else not (size == 0)) ≡ false
good_as kind.Data place true size h = none_of_four (size == 0) (nat_lt 1008 size) (not (size % 16 == 0)) false (ne_eqb size 0 (λ e. let some : 0 < size = h.some in absurd (omega arith))) (le-ltb 1008 size h.most) (ap not (eq-eqb (size % 16) 0 h.units)) refl
good_as kind.Data place false size h = let full : size ≡ 1008 = h.full refl in rw full refl
good_as kind.Rfnm place last size h = let empty : size ≡ 0 = h.empty in rw empty refl
good_as kind.Dead place last size h = let empty : size ≡ 0 = h.empty in rw empty refl
good_as kind.Ask place last size h = let empty : size ≡ 0 = h.empty in rw empty refl
good_as kind.Never place last size h = let empty : size ≡ 0 = h.empty in rw empty refl

good_again : (p : PacketFields) → IsPacket p → is_bad_length (spelling p) ≡ false
unfolding is_bad_length
good_again p h =
    let held : HoldsPlace p.place p.last = place_held p.place p.last h.place in
    let count : bit_count (spelling p) ≡ length p.bits = two_again (length p.bits) in
    rw (count, held.high) (good_as p.kind p.place p.last (length p.bits) h.body)

kind_read : (k : PacketKind) → kind_of (kind_octet k) ≡ k
kind_read kind.Data = refl
kind_read kind.Rfnm = refl
kind_read kind.Dead = refl
kind_read kind.Ask = refl
kind_read kind.Never = refl

host_with : ℕ → ℕ → Host
host_with imp host = record { imp = imp; host = host }

same_host_with : (i i' h h' : ℕ) → i ≡ i' → h ≡ h' → host_with i h ≡ host_with i' h'
same_host_with i i' h h' imp host = cc

same_host_parts : (i i' h h' : ℕ) → i ≡ i' → h ≡ h' → (let a : Host = record { imp = i; host = h } in let b : Host = record { imp = i'; host = h' } in a ≡ b)
unfolding host_with
same_host_parts i i' h h' imp host = same_host_with i i' h h' imp host

host_read : (a : Host) → IsPacketHost a → host_of (address_octet a) ≡ a
host_read a h =
    let imp : address_octet a % 64 ≡ a.imp = omega (arith, h.imp) in
    let host : address_octet a / 64 ≡ a.host = omega (arith, h.imp) in
    same_host_parts (address_octet a % 64) a.imp (address_octet a / 64) a.host imp host

-- a packet by its parts
packet_of : PacketKind → Host → Host → ℕ → ℕ → ℕ → Bool → List Bool → PacketFields
packet_of k s d l n place last bits = record { kind = k; source = s; destination = d; link = l; number = n; place = place; last = last; bits = bits }

same_parts : {k k' : PacketKind} {s s' d d' : Host} {l l' n n' place place' : ℕ} {last last' : Bool} {bits bits' : List Bool}
    → k ≡ k' → s ≡ s' → d ≡ d' → l ≡ l' → n ≡ n' → place ≡ place' → last ≡ last' → bits ≡ bits'
    → packet_of k s d l n place last bits ≡ packet_of k' s' d' l' n' place' last' bits'
same_parts kinds sources destinations links numbers places lasts all_bits = cc

same_fields : (p q : PacketFields) → p.kind ≡ q.kind → p.source ≡ q.source → p.destination ≡ q.destination → p.link ≡ q.link → p.number ≡ q.number
    → p.place ≡ q.place → p.last ≡ q.last → p.bits ≡ q.bits → p ≡ q
unfolding packet_of
same_fields p q kinds sources destinations links numbers places lasts all_bits = same_parts kinds sources destinations links numbers places lasts all_bits

pub fields_again : (p : PacketFields) → IsPacket p → fields_of (spelling p) ≡ p
fields_again p h =
    let size : (length p.bits % 8 ≡ 0) × (length p.bits ≤ 1008) = size_by p.kind p.place p.last (length p.bits) h.body in
    let o : AreOctets p.bits = octets_are p.bits size.0 in
    let held : HoldsPlace p.place p.last = place_held p.place p.last h.place in
    let count : bit_count (spelling p) ≡ length p.bits = two_again (length p.bits) in
    same_fields (fields_of (spelling p)) p (kind_read p.kind) (host_read p.source h.source) (host_read p.destination h.destination) refl (two_again p.number)
    held.low held.high
    (ap (λ (n : ℕ). take n (bits_of (octets_of p.bits))) count ∙ ap (λ (b : List Bool). take (length p.bits) b) o.again ∙ take_all (length p.bits) p.bits (omega arith))

pub read_again : (p : PacketFields) → IsPacket p → read_of (spelling p) ≡ Ok p
read_again p h = rw (long_again p h, canonical_again p h, good_again p h) (ap Ok (fields_again p h))

-- ---- what the reader makes

-- what is read, given by its parts
pub fields_made : (octets : List ℕ) (p : PacketFields) (body : List ℕ) (count : ℕ) → p.kind ≡ kind_of (get_or octets kind_at 0) → p.source ≡ host_of (get_or octets source_at 0)
    → p.destination ≡ host_of (get_or octets destination_at 0) → p.link ≡ get_or octets link_at 0 → p.number ≡ two_octets octets number_at → p.place ≡ place_of octets
    → p.last ≡ is_last octets → p.bits ≡ take count (bits_of body) → body ≡ drop header_octets octets → count ≡ bit_count octets → fields_of octets ≡ p
fields_made octets p body count kinds sources destinations links numbers places lasts bits at counts =
    same_fields (fields_of octets) p (sym kinds) (sym sources) (sym destinations) (sym links) (sym numbers) (sym places) (sym lasts)
    (ap (λ (n : ℕ). take n (bits_of (drop header_octets octets))) (sym counts) ∙ ap (λ (ns : List ℕ). take count (bits_of ns)) (sym at) ∙ sym bits)

-- ---- what is read was a packet's spelling

pub same_read : (p q : PacketFields) → (let a : Result PacketFields PacketFault = Ok p in let b : Result PacketFields PacketFault = Ok q in a ≡ b) → p ≡ q
same_read p q e = cc

-- no reason to refuse, by the three tests
record ReadsBy (octets : List ℕ) (p : PacketFields) : Type 0 where
  pub packet : SpellsPacket octets
  pub same : fields_of octets ≡ p

read_by : (octets : List ℕ) (p : PacketFields) (short canonical bad : Bool) → is_short octets ≡ short → is_not_canonical octets ≡ canonical → is_bad_length octets ≡ bad
    → read_of octets ≡ Ok p → ReadsBy octets p
read_by octets p true canonical bad s n b read = absurd (let refused : Err fault.Short ≡ Ok p = rw s at read in cc)
read_by octets p false true bad s n b read = absurd (let refused : Err fault.NotCanonical ≡ Ok p = rw (s, n) at read in cc)
read_by octets p false false true s n b read = absurd (let refused : Err fault.BadLength ≡ Ok p = rw (s, n, b) at read in cc)
read_by octets p false false false s n b read = record { packet = packet_from octets s n b; same = same_read (fields_of octets) p (rw (s, n, b) at read) }

pub read_is : (octets : List ℕ) (p : PacketFields) → All (λ n. n < 256) octets → read_of octets ≡ Ok p → IsPacket p × (octets ≡ spelling p)
read_is octets p all read =
    let small : (k : ℕ) → get_or octets k 0 < 256 = λ k. elim (cases_lt k (length octets)) [
      | inl lt ↦ all k 0 lt
      | inr ge ↦ (let past : get_or octets k 0 ≡ 0 = get_or_past octets k 0 ge in rw past (omega arith))
    ] in
    let r : ReadsBy octets p = read_by octets p (is_short octets) (is_not_canonical octets) (is_bad_length octets) refl refl refl read in
    (subst IsPacket r.same (fields_fit octets small r.packet), spelled octets small r.packet ∙ ap spelling r.same)
