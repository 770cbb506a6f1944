-- Pieces rejoin.
use Rattle.std.proofs.Common.{◌≡◌, ℕ, ◌+◌, ◌*◌, ◌<◌, ◌≤◌, Bool, true, false, List, [], ◌∷◌, ◌++◌, length, drop, refl, ap, sym, ◌∙◌, subst, arith, All, suc, zero, Option, Some, None, filter, map, zero-add, is_some, nat_lt, ◌==◌, ◌||◌, ◌&&◌, eq-eqb, ne_eqb, eqb-true, inl, inr, if◌then◌else◌}
use Rattle.std.specs.List.{list_any, list_all, range_with_len}
use Rattle.std.proofs.lemmas.Bool.{cases_Bool, cases_eq, or_right}
use Rattle.std.proofs.lemmas.Bool.Decides.{nat_tests}
use Rattle.std.proofs.lemmas.List.{take-append-drop, drop-drop, drop_all, length-map, nil_from_length}
use Rattle.std.proofs.lemmas.List.Elements.{All-cons, All-nil, All-head, All-tail, All-weaker, All-filter, All-map}
use Rattle.interface.specs.Flow.{same_flow, flow_before}
use Rattle.interface.proofs.lemmas.{same_flow-refl, same_flow-true, and_first, and_second}
use Rattle.interface.specs.declared.address.Flow.{Flow}
use Rattle.packetiser.specs.PacketFields.{PacketFields, flow_of}
use Rattle.packetiser.specs.Pieces.{piece_count, piece, piece_packet, places, packets_of, CarriesPieceOf}
use Rattle.packetiser.specs.Slots.{SlotState, IsPieceFor, slot_of, pieces_for, kept_for, gathered, with_piece, put, without, outcome_of, answer_of, answer_by, added, added_by, has_room, is_old, rules_out, is_whole_from, joined_pieces}
use Rattle.packetiser.specs.Rejoining.{came, all_came, pieces_of, Holds, answer_to, slots_after, Event, Piece, Other, Emptied, IsAmongOthers, places_in, after_events}
use Rattle.packetiser.specs.declared.reassembly.Outcome.{Outcome}
use Rattle.packetiser.specs.declared.reassembly.Outcome.TheVariants as outcome
use Rattle.packetiser.specs.declared.reassembly.Added.TheVariants as answer

-- ---- pieces of one body, joined

-- the bits from a piece on
abbrev from_piece : List Bool → ℕ → List Bool
from_piece w place = drop (1008 * place) w

-- a piece and what follows it
piece_and_rest : (w : List Bool) (place : ℕ) → piece w place ++ from_piece w (place + 1) ≡ from_piece w place
piece_and_rest w place =
    let next : 1008 * (place + 1) ≡ 1008 * place + 1008 = omega arith in
    ap (λ (n : ℕ). piece w place ++ drop n w) next ∙ ap (λ (b : List Bool). piece w place ++ b) (sym (drop-drop 1008 (1008 * place) w)) ∙ take-append-drop 1008 (drop (1008 * place) w)

-- after the last piece there is nothing
nothing_behind : (w : List Bool) (place : ℕ) → place ≡ piece_count w → from_piece w place ≡ []
nothing_behind w place end = drop_all (1008 * place) w (omega (arith, end))

joined_from : (w : List Bool) (place : ℕ) (ps : List PacketFields) → All (CarriesPieceOf w) ps → is_whole_from place ps ≡ true → joined_pieces ps ≡ from_piece w place
joined_from w place [] all whole = absurd (cc)
joined_from w place (q ∷ qs) all whole =
    let here : CarriesPieceOf w q = All-head (CarriesPieceOf w) q qs all in
    let at : q.place ≡ place = eqb-true q.place place (and_first (q.place == place) (if q.last then length qs == 0 else is_whole_from (place + 1) qs) whole) in
    let behind : (if q.last then length qs == 0 else is_whole_from (place + 1) qs) ≡ true = and_second (q.place == place) (if q.last then length qs == 0 else is_whole_from (place + 1) qs) whole in
    let rest : joined_pieces qs ≡ from_piece w (place + 1) = elim (cases_Bool q.last) [
      | inl e ↦ (
          let none : (length qs == 0) ≡ true = rw e at behind in
          let last : q.place + 1 ≡ piece_count w = eqb-true (q.place + 1) (piece_count w) (sym here.flag ∙ e) in
          ap joined_pieces (nil_from_length qs (eqb-true (length qs) 0 none)) ∙ sym (nothing_behind w (place + 1) (omega (arith, at, last))))
      | inr e ↦ joined_from w (place + 1) qs (All-tail (CarriesPieceOf w) q qs all) (rw e at behind)
    ] in
    ap (λ (b : List Bool). b ++ joined_pieces qs) (here.same ∙ ap (piece w) at) ∙ ap (λ (b : List Bool). piece w place ++ b) rest ∙ piece_and_rest w place

pub joined_whole : (w : List Bool) (ps : List PacketFields) → All (CarriesPieceOf w) ps → is_whole_from 0 ps ≡ true → joined_pieces ps ≡ w
joined_whole w ps all whole = joined_from w 0 ps all whole

-- pieces at all places from one on
places_from : (w : List Bool) (place count : ℕ) (ps : List PacketFields) → All (CarriesPieceOf w) ps → map (λ q. q.place) ps ≡ range_with_len place count → place + count ≡ piece_count w
    → joined_pieces ps ≡ from_piece w place
places_from w place zero ps all same end =
    let none : length ps ≡ 0 = sym (length-map ps (λ q. q.place)) ∙ ap length same in
    ap joined_pieces (nil_from_length ps none) ∙ sym (nothing_behind w place (omega (arith, end)))
places_from w place (suc count) [] all same end = absurd (cc)
places_from w place (suc count) (q ∷ qs) all same end =
    let here : CarriesPieceOf w q = All-head (CarriesPieceOf w) q qs all in
    let at : q.place ≡ place = cc in
    let others : map (λ (r : PacketFields). r.place) qs ≡ range_with_len (place + 1) count = cc in
    let rest : joined_pieces qs ≡ from_piece w (place + 1) = places_from w (place + 1) count qs (All-tail (CarriesPieceOf w) q qs all) others (omega (arith, end)) in
    ap (λ (b : List Bool). b ++ joined_pieces qs) (here.same ∙ ap (piece w) at) ∙ ap (λ (b : List Bool). piece w place ++ b) rest ∙ piece_and_rest w place

pub joined_places : (w : List Bool) (ps : List PacketFields) → All (CarriesPieceOf w) ps → map (λ q. q.place) ps ≡ places (piece_count w) → joined_pieces ps ≡ w
joined_places w ps all same = places_from w 0 (piece_count w) ps all same (zero-add (piece_count w))

-- ---- the packets of a body

range_within : (a count : ℕ) → All (λ k. (a ≤ k) × (k < a + count)) (range_with_len a count)
range_within a zero = All-nil (λ k. (a ≤ k) × (k < a + zero))
range_within a (suc count) = All-cons (λ k. (a ≤ k) × (k < a + suc count)) a (range_with_len (a + 1) count) (omega arith, omega arith)
    (All-weaker (λ k. (a + 1 ≤ k) × (k < a + 1 + count)) (λ k. (a ≤ k) × (k < a + suc count)) (λ k h. (let low : a + 1 ≤ k = h.0 in omega arith, let high : k < a + 1 + count = h.1 in omega arith)) (range_with_len (a + 1) count) (range_within (a + 1) count))

pub packets_are : (flow : Flow) (number : ℕ) (w : List Bool) → All (IsPieceFor flow number) (packets_of flow number w) × All (CarriesPieceOf w) (packets_of flow number w)
packets_are flow number w = (
  All-map (IsPieceFor flow number) (piece_packet flow number w) (places (piece_count w)) (λ k d lt. record { data_kind = refl; flow = refl; same_number = refl }),
  All-map (CarriesPieceOf w) (piece_packet flow number w) (places (piece_count w))
      (All-weaker (λ k. (0 ≤ k) × (k < 0 + piece_count w)) (λ k. CarriesPieceOf w (piece_packet flow number w k)) (λ k h. record { there = (let high : k < 0 + piece_count w = h.1 in omega arith); flag = refl; same = refl }) (places (piece_count w)) (range_within 0 (piece_count w))),
)

places_whole : (flow : Flow) (number : ℕ) (w : List Bool) (a count : ℕ) → a + count ≡ piece_count w → 0 < count
    → is_whole_from a (map (piece_packet flow number w) (range_with_len a count)) ≡ true
places_whole flow number w a zero end some = absurd (omega arith)
places_whole flow number w a (suc zero) end some =
    let at : (a == a) ≡ true = eq-eqb a a refl in
    let last : (a + 1 == piece_count w) ≡ true = eq-eqb (a + 1) (piece_count w) (omega (arith, end)) in
    rw (at, last) refl
places_whole flow number w a (suc (suc count)) end some =
    let at : (a == a) ≡ true = eq-eqb a a refl in
    let more : (a + 1 == piece_count w) ≡ false = ne_eqb (a + 1) (piece_count w) (λ last. absurd (omega (arith, end, last))) in
    let rest : is_whole_from (a + 1) (map (piece_packet flow number w) (range_with_len (a + 1) (suc count))) ≡ true = places_whole flow number w (a + 1) (suc count) (omega (arith, end)) (omega arith) in
    rw (at, more) rest

pub packets_whole : (flow : Flow) (number : ℕ) (w : List Bool) → 0 < length w → is_whole_from 0 (packets_of flow number w) ≡ true
packets_whole flow number w some = places_whole flow number w 0 (piece_count w) (zero-add (piece_count w)) (omega arith)

map_places : (flow : Flow) (number : ℕ) (w : List Bool) (js : List ℕ) → map (λ (q : PacketFields). q.place) (map (piece_packet flow number w) js) ≡ js
map_places flow number w [] = refl
map_places flow number w (j ∷ js) = ap (λ (is : List ℕ). j ∷ is) (map_places flow number w js)

pub packets_joined : (flow : Flow) (number : ℕ) (w : List Bool) → joined_pieces (packets_of flow number w) ≡ w
packets_joined flow number w = joined_places w (packets_of flow number w) (packets_are flow number w).1 (map_places flow number w (places (piece_count w)))

-- ---- the pieces that came

none_below : (c : ℕ → Bool) (a count k : ℕ) → k < a → list_any (λ j. j == k) (filter c (range_with_len a count)) ≡ false
none_below c a zero k lt = refl
none_below c a (suc count) k lt = elim (cases_Bool (c a)) [
  | inl e ↦ (let other : (a == k) ≡ false = ne_eqb a k (λ same. absurd (omega arith)) in rw (e, other) (none_below c (a + 1) count k (omega arith)))
  | inr e ↦ rw e (none_below c (a + 1) count k (omega arith))
]

-- of the places of a range that pass, one is this place exactly where it passes
any_in_range : (c : ℕ → Bool) (a count k : ℕ) → a ≤ k → k < a + count → list_any (λ j. j == k) (filter c (range_with_len a count)) ≡ c k
any_in_range c a zero k low high = absurd (omega arith)
any_in_range c a (suc count) k low high = elim (cases_eq a k) [
  | inl here ↦ elim (cases_Bool (c a)) [
    | inl e ↦ (let found : (a == k) ≡ true = eq-eqb a k here in rw (e, found) (sym e ∙ ap c here))
    | inr e ↦ rw e (none_below c (a + 1) count k (omega arith) ∙ sym e ∙ ap c here)
  ]
  | inr ne ↦ (
      let later : list_any (λ (j : ℕ). j == k) (filter c (range_with_len (a + 1) count)) ≡ c k = any_in_range c (a + 1) count k (omega arith) (omega arith) in
      elim (cases_Bool (c a)) [
        | inl e ↦ (let other : (a == k) ≡ false = ne_eqb a k ne in rw (e, other) later)
        | inr e ↦ rw e later
      ])
]

or_nothing : (b c d : Bool) → c ≡ false → d ≡ false → (b || c || d) ≡ b
or_nothing true c d ec ed = refl
or_nothing false c d ec ed = rw (ec, ed) refl

true_false : true ≡ false → ⊥
true_false e = cc

never : (a b : Bool) → (a ≡ true → b ≡ true → ⊥) → (a && b) ≡ false
never false b both = refl
never true false both = refl
never true true both = absurd (both refl refl)

same_or : (a b c d : Bool) → a ≡ b → c ≡ d → (a || c) ≡ (b || d)
same_or a b c d ab cd = cc

rules_one : (n j k : ℕ) → j < n → k < n → (j == k || j + 1 == n && nat_lt j k || k + 1 == n && nat_lt k j) ≡ (j == k)
rules_one n j k lj lk =
    or_nothing (j == k) (j + 1 == n && nat_lt j k) (k + 1 == n && nat_lt k j)
    (never (j + 1 == n) (nat_lt j k) (λ e l. let last : j + 1 ≡ n = eqb-true (j + 1) n e in let lt : j < k = grind (arith, nat_tests, l) in absurd (omega arith)))
    (never (k + 1 == n) (nat_lt k j) (λ e l. let last : k + 1 ≡ n = eqb-true (k + 1) n e in let lt : k < j = grind (arith, nat_tests, l) in absurd (omega arith)))

-- a piece of a body leaves no place for another exactly where they are the same
rules_same : (flow : Flow) (number : ℕ) (w : List Bool) (k : ℕ) (js : List ℕ) → k < piece_count w → All (λ j. j < piece_count w) js
    → is_old (map (piece_packet flow number w) js) (piece_packet flow number w k) ≡ list_any (λ j. j == k) js
rules_same flow number w k [] lt all = refl
rules_same flow number w k (j ∷ js) lt all =
    same_or (rules_out (piece_packet flow number w k) (piece_packet flow number w j)) (j == k)
    (is_old (map (piece_packet flow number w) js) (piece_packet flow number w k)) (list_any (λ i. i == k) js)
    (rules_one (piece_count w) j k (All-head (λ i. i < piece_count w) j js all) lt)
    (rules_same flow number w k js lt (All-tail (λ i. i < piece_count w) j js all))

not_whole : (flow : Flow) (number : ℕ) (w : List Bool) (c : ℕ → Bool) (a b count : ℕ) → a < b
    → is_whole_from a (map (piece_packet flow number w) (filter c (range_with_len b count))) ≡ false
not_whole flow number w c a b zero lt = refl
not_whole flow number w c a b (suc count) lt = elim (cases_Bool (c b)) [
  | inl e ↦ (let other : (b == a) ≡ false = ne_eqb b a (λ same. absurd (omega arith)) in rw (e, other) refl)
  | inr e ↦ rw e (not_whole flow number w c a (b + 1) count (omega arith))
]

-- places of a range are whole exactly where all came
whole_range : (flow : Flow) (number : ℕ) (w : List Bool) (c : ℕ → Bool) (a count : ℕ) → a + count ≡ piece_count w → 0 < count
    → is_whole_from a (map (piece_packet flow number w) (filter c (range_with_len a count))) ≡ list_all c (range_with_len a count)
whole_range flow number w c a zero end some = absurd (omega arith)
whole_range flow number w c a (suc zero) end some = elim (cases_Bool (c a)) [
  | inl e ↦ (let at : (a == a) ≡ true = eq-eqb a a refl in let last : (a + 1 == piece_count w) ≡ true = eq-eqb (a + 1) (piece_count w) (omega (arith, end)) in rw (e, at, last) refl)
  | inr e ↦ rw e refl
]
whole_range flow number w c a (suc (suc count)) end some = elim (cases_Bool (c a)) [
  | inl e ↦ (
      let at : (a == a) ≡ true = eq-eqb a a refl in
      let more : (a + 1 == piece_count w) ≡ false = ne_eqb (a + 1) (piece_count w) (λ last. absurd (omega (arith, end, last))) in
      let rest : is_whole_from (a + 1) (map (piece_packet flow number w) (filter c (range_with_len (a + 1) (suc count)))) ≡ list_all c (range_with_len (a + 1) (suc count)) =
      whole_range flow number w c (a + 1) (suc count) (omega (arith, end)) (omega arith) in
      rw (e, at, more) rest)
  | inr e ↦ rw e (not_whole flow number w c a (a + 1) (suc count) (omega arith))
]

in_front : (flow : Flow) (number : ℕ) (w : List Bool) (c : ℕ → Bool) (k b count : ℕ) → k < b
    → with_piece (piece_packet flow number w k) (map (piece_packet flow number w) (filter c (range_with_len b count)))
    ≡ piece_packet flow number w k ∷ map (piece_packet flow number w) (filter c (range_with_len b count))
in_front flow number w c k b zero lt = refl
in_front flow number w c k b (suc count) lt = elim (cases_Bool (c b)) [
  | inl e ↦ (let above : nat_lt b k ≡ false = grind (arith, nat_tests) in rw (e, above) refl)
  | inr e ↦ rw e (in_front flow number w c k (b + 1) count (omega arith))
]

came_above : (ks : List ℕ) (k b count : ℕ) → k < b → filter (came (k ∷ ks)) (range_with_len b count) ≡ filter (came ks) (range_with_len b count)
came_above ks k b zero lt = refl
came_above ks k b (suc count) lt =
    let other : (k == b) ≡ false = ne_eqb k b (λ same. absurd (omega arith)) in
    elim (cases_Bool (came ks b)) [
      | inl e ↦ rw (other, e) (ap (λ (js : List ℕ). b ∷ js) (came_above ks k (b + 1) count (omega arith)))
      | inr e ↦ rw (other, e) (came_above ks k (b + 1) count (omega arith))
    ]

came_again : (ks : List ℕ) (k : ℕ) (js : List ℕ) → came ks k ≡ true → filter (came (k ∷ ks)) js ≡ filter (came ks) js
came_again ks k [] old = refl
came_again ks k (j ∷ js) old = elim (cases_eq k j) [
  | inl same ↦ (let here : came ks j ≡ true = sym (ap (came ks) same) ∙ old in let found : (k == j) ≡ true = eq-eqb k j same in rw (found, here) (ap (λ (is : List ℕ). j ∷ is) (came_again ks k js old)))
  | inr ne ↦ (let other : (k == j) ≡ false = ne_eqb k j ne in elim (cases_Bool (came ks j)) [
    | inl e ↦ rw (other, e) (ap (λ (is : List ℕ). j ∷ is) (came_again ks k js old))
    | inr e ↦ rw (other, e) (came_again ks k js old)
  ])
]

-- one piece more
with_range : (flow : Flow) (number : ℕ) (w : List Bool) (ks : List ℕ) (a count k : ℕ) → a ≤ k → k < a + count → came ks k ≡ false
    → with_piece (piece_packet flow number w k) (map (piece_packet flow number w) (filter (came ks) (range_with_len a count)))
    ≡ map (piece_packet flow number w) (filter (came (k ∷ ks)) (range_with_len a count))
with_range flow number w ks a zero k low high fresh = absurd (omega arith)
with_range flow number w ks a (suc count) k low high fresh = elim (cases_eq a k) [
  | inl here ↦ (
      let missing : came ks a ≡ false = ap (came ks) here ∙ fresh in
      let found : (k == a) ≡ true = eq-eqb k a (sym here) in
      rw (missing, found) (in_front flow number w (came ks) k (a + 1) count (omega arith)
      ∙ ap (λ (j : ℕ). piece_packet flow number w j ∷ map (piece_packet flow number w) (filter (came ks) (range_with_len (a + 1) count))) (sym here)
      ∙ ap (λ (js : List ℕ). piece_packet flow number w a ∷ map (piece_packet flow number w) js) (sym (came_above ks k (a + 1) count (omega arith)))))
  | inr ne ↦ (
      let other : (k == a) ≡ false = ne_eqb k a (λ e. ne (sym e)) in
      let below : nat_lt a k ≡ true = (let lt : a < k = omega arith in grind (arith, nat_tests)) in
      let rest : with_piece (piece_packet flow number w k) (map (piece_packet flow number w) (filter (came ks) (range_with_len (a + 1) count)))
      ≡ map (piece_packet flow number w) (filter (came (k ∷ ks)) (range_with_len (a + 1) count)) = with_range flow number w ks (a + 1) count k (omega arith) (omega arith) fresh in
      elim (cases_Bool (came ks a)) [
        | inl e ↦ rw (other, e, below) (ap (λ (ps : List PacketFields). piece_packet flow number w a ∷ ps) rest)
        | inr e ↦ rw (other, e) rest
      ])
]

-- ---- the slot of a flow

slot_put_same : (s : SlotState) (slots : List SlotState) → slot_of (put s slots) s.flow ≡ Some s
slot_put_same s [] = rw (same_flow-refl s.flow) refl
slot_put_same s (t ∷ ts) = elim (cases_Bool (same_flow s.flow t.flow)) [
  | inl e ↦ rw (e, same_flow-refl s.flow) refl
  | inr e ↦ elim (cases_Bool (flow_before t.flow s.flow)) [
    | inl b ↦ rw (e, b, e) (slot_put_same s ts)
    | inr b ↦ rw (e, b, same_flow-refl s.flow) refl
  ]
]

slot_put_other : (s : SlotState) (slots : List SlotState) (f : Flow) → same_flow f s.flow ≡ false → slot_of (put s slots) f ≡ slot_of slots f
slot_put_other s [] f other = rw other refl
slot_put_other s (t ∷ ts) f other = elim (cases_Bool (same_flow s.flow t.flow)) [
  | inl e ↦ (
      let unlike : same_flow f t.flow ≡ false = ap (same_flow f) (sym (same_flow-true s.flow t.flow e)) ∙ other in
      rw (e, other, unlike) refl)
  | inr e ↦ elim (cases_Bool (flow_before t.flow s.flow)) [
    | inl b ↦ elim (cases_Bool (same_flow f t.flow)) [
      | inl g ↦ rw (e, b, g) refl
      | inr g ↦ rw (e, b, g) (slot_put_other s ts f other)
    ]
    | inr b ↦ rw (e, b, other) refl
  ]
]

has_put : (s : SlotState) (slots : List SlotState) → list_any (λ t. same_flow s.flow t.flow) (put s slots) ≡ true
has_put s [] = rw (same_flow-refl s.flow) refl
has_put s (t ∷ ts) = elim (cases_Bool (same_flow s.flow t.flow)) [
  | inl e ↦ rw (e, same_flow-refl s.flow) refl
  | inr e ↦ elim (cases_Bool (flow_before t.flow s.flow)) [
    | inl b ↦ rw (e, b, e) (has_put s ts)
    | inr b ↦ rw (e, b, same_flow-refl s.flow) refl
  ]
]

pub slot_without_same : (slots : List SlotState) (f : Flow) → slot_of (without slots f) f ≡ None
slot_without_same [] f = refl
slot_without_same (t ∷ ts) f = elim (cases_Bool (same_flow f t.flow)) [
  | inl e ↦ rw e (slot_without_same ts f)
  | inr e ↦ rw (e, e) (slot_without_same ts f)
]

pub slot_without_other : (slots : List SlotState) (f g : Flow) → same_flow f g ≡ false → slot_of (without slots g) f ≡ slot_of slots f
slot_without_other [] f g other = refl
slot_without_other (t ∷ ts) f g other = elim (cases_Bool (same_flow g t.flow)) [
  | inl e ↦ (
      let unlike : same_flow f t.flow ≡ false = ap (same_flow f) (sym (same_flow-true g t.flow e)) ∙ other in
      rw (e, unlike) (slot_without_other ts f g other))
  | inr e ↦ elim (cases_Bool (same_flow f t.flow)) [
    | inl h ↦ rw (e, h) refl
    | inr h ↦ rw (e, h) (slot_without_other ts f g other)
  ]
]

slot_by_outcome : (o : Outcome) (slots : List SlotState) (p : PacketFields) (f : Flow) → same_flow f (flow_of p) ≡ false → slot_of (added_by o slots p) f ≡ slot_of slots f
slot_by_outcome outcome.Kept slots p f other = slot_put_other (record { flow = flow_of p; number = p.number; pieces = gathered slots p }) slots f other
slot_by_outcome outcome.Whole slots p f other = slot_without_other slots f (flow_of p) other
slot_by_outcome outcome.Old slots p f other = refl
slot_by_outcome outcome.Full slots p f other = refl

pub slot_added_other : (slots : List SlotState) (p : PacketFields) (f : Flow) → same_flow f (flow_of p) ≡ false → slot_of (added slots p) f ≡ slot_of slots f
slot_added_other slots p f other = slot_by_outcome (outcome_of slots p) slots p f other

-- ---- one piece of a message

-- an outcome by the three tests
if_old : (old whole room : Bool) → old ≡ true → (if old then outcome.Old else (if whole then outcome.Whole else (if room then outcome.Kept else outcome.Full))) ≡ outcome.Old
if_old old whole room e = rw e refl

if_whole : (old whole room : Bool) → old ≡ false → whole ≡ true → (if old then outcome.Old else (if whole then outcome.Whole else (if room then outcome.Kept else outcome.Full))) ≡ outcome.Whole
if_whole old whole room e f = rw (e, f) refl

if_kept : (old whole room : Bool) → old ≡ false → whole ≡ false → room ≡ true → (if old then outcome.Old else (if whole then outcome.Whole else (if room then outcome.Kept else outcome.Full))) ≡ outcome.Kept
if_kept old whole room e f g = rw (e, f, g) refl

-- what is known where a piece of a message comes
record Comes (flow : Flow) (number : ℕ) (w : List Bool) (ks : List ℕ) (k : ℕ) (slots : List SlotState) : Type 0 where
  pub old : is_old (kept_for slots (piece_packet flow number w k)) (piece_packet flow number w k) ≡ came ks k
  pub together : came ks k ≡ false → gathered slots (piece_packet flow number w k) ≡ pieces_of flow number w (k ∷ ks)
  pub whole : came ks k ≡ false → is_whole_from 0 (gathered slots (piece_packet flow number w k)) ≡ all_came w (k ∷ ks)

comes : (flow : Flow) (number : ℕ) (w : List Bool) (ks : List ℕ) (k : ℕ) (slots : List SlotState) → Holds flow number w ks slots → k < piece_count w → Comes flow number w ks k slots
comes flow number w ks k slots h lt =
    let p : PacketFields = piece_packet flow number w k in
    let low : All (λ (j : ℕ). j < piece_count w) (filter (came ks) (places (piece_count w))) = All-filter (came ks) (λ (j : ℕ). j < piece_count w) (places (piece_count w))
    (All-weaker (λ j. (0 ≤ j) × (j < 0 + piece_count w)) (λ j. j < piece_count w) (λ j b. let high : j < 0 + piece_count w = b.1 in omega arith) (places (piece_count w)) (range_within 0 (piece_count w))) in
    let all : came ks k ≡ false → gathered slots p ≡ pieces_of flow number w (k ∷ ks) =
    λ fresh. ap (with_piece p) h.pieces ∙ with_range flow number w ks 0 (piece_count w) k (omega arith) (omega (arith, lt)) fresh in
    record {
      old = ap (λ (ps : List PacketFields). is_old ps p) h.pieces ∙ rules_same flow number w k (filter (came ks) (places (piece_count w))) lt low ∙ any_in_range (came ks) 0 (piece_count w) k (omega arith) (omega (arith, lt));
      together = all;
      whole = λ fresh. ap (is_whole_from 0) (all fresh) ∙ whole_range flow number w (came (k ∷ ks)) 0 (piece_count w) (zero-add (piece_count w)) (omega (arith, lt));
    }

-- the pieces that came are pieces of the body
pieces_are : (flow : Flow) (number : ℕ) (w : List Bool) (ks : List ℕ) → All (CarriesPieceOf w) (pieces_of flow number w ks)
pieces_are flow number w ks = All-map (CarriesPieceOf w) (piece_packet flow number w) (filter (came ks) (places (piece_count w)))
    (All-filter (came ks) (λ k. CarriesPieceOf w (piece_packet flow number w k)) (places (piece_count w))
    (All-weaker (λ k. (0 ≤ k) × (k < 0 + piece_count w)) (λ k. CarriesPieceOf w (piece_packet flow number w k)) (λ k h. record { there = (let high : k < 0 + piece_count w = h.1 in omega arith); flag = refl; same = refl }) (places (piece_count w)) (range_within 0 (piece_count w))))

pub answered : (flow : Flow) (number : ℕ) (w : List Bool) (slots : List SlotState) (ks : List ℕ) (k : ℕ) → Holds flow number w ks slots → k < piece_count w
    → answer_of slots (piece_packet flow number w k) ≡ answer_to w ks k
answered flow number w slots ks k h lt =
    let p : PacketFields = piece_packet flow number w k in
    let known : Comes flow number w ks k slots = comes flow number w ks k slots h lt in
    elim (cases_Bool (came ks k)) [
      | inl e ↦ (
          let out : outcome_of slots p ≡ outcome.Old = if_old (is_old (kept_for slots p) p) (is_whole_from 0 (gathered slots p)) (has_room slots flow) (known.old ∙ e) in
          ap (λ (o : Outcome). answer_by o slots p) out ∙ (let said : answer_to w ks k ≡ answer.Old = rw e refl in sym said))
      | inr e ↦ elim (cases_Bool (all_came w (k ∷ ks))) [
        | inl a ↦ (
            let out : outcome_of slots p ≡ outcome.Whole = if_whole (is_old (kept_for slots p) p) (is_whole_from 0 (gathered slots p)) (has_room slots flow) (known.old ∙ e) (known.whole e ∙ a) in
            let bits : joined_pieces (gathered slots p) ≡ w = ap joined_pieces (known.together e) ∙ joined_whole w (pieces_of flow number w (k ∷ ks)) (pieces_are flow number w (k ∷ ks)) (ap (is_whole_from 0) (sym (known.together e)) ∙ known.whole e ∙ a) in
            ap (λ (o : Outcome). answer_by o slots p) out ∙ ap answer.Whole bits ∙ (let said : answer_to w ks k ≡ answer.Whole w = rw (e, a) refl in sym said))
        | inr a ↦ (
            let out : outcome_of slots p ≡ outcome.Kept = if_kept (is_old (kept_for slots p) p) (is_whole_from 0 (gathered slots p)) (has_room slots flow) (known.old ∙ e) (known.whole e ∙ a) h.room in
            ap (λ (o : Outcome). answer_by o slots p) out ∙ (let said : answer_to w ks k ≡ answer.Kept = rw (e, a) refl in sym said))
      ]
    ]

pub still_held : (flow : Flow) (number : ℕ) (w : List Bool) (slots : List SlotState) (ks : List ℕ) (k : ℕ) → Holds flow number w ks slots → k < piece_count w
    → all_came w (k ∷ ks) ≡ false → Holds flow number w (k ∷ ks) (added slots (piece_packet flow number w k))
still_held flow number w slots ks k h lt missing =
    let p : PacketFields = piece_packet flow number w k in
    let known : Comes flow number w ks k slots = comes flow number w ks k slots h lt in
    let s : SlotState = record { flow = flow_of p; number = number; pieces = gathered slots p } in
    let P : Outcome → Type 0 = λ o. Holds flow number w (k ∷ ks) (added_by o slots p) in
    elim (cases_Bool (came ks k)) [
      | inl e ↦ (
          let out : outcome_of slots p ≡ outcome.Old = if_old (is_old (kept_for slots p) p) (is_whole_from 0 (gathered slots p)) (has_room slots flow) (known.old ∙ e) in
          subst P (sym out) (record { pieces = h.pieces ∙ ap (map (piece_packet flow number w)) (sym (came_again ks k (places (piece_count w)) e)); room = h.room }))
      | inr e ↦ (
          let out : outcome_of slots p ≡ outcome.Kept = if_kept (is_old (kept_for slots p) p) (is_whole_from 0 (gathered slots p)) (has_room slots flow) (known.old ∙ e) (known.whole e ∙ missing) h.room in
          let own : (number == number) ≡ true = eq-eqb number number refl in
          let kept_there : pieces_for (Some s) number ≡ gathered slots p = rw own refl in
          subst P (sym out) (record {
            pieces = ap (λ (o : Option SlotState). pieces_for o number) (slot_put_same s slots) ∙ kept_there ∙ known.together e;
            room = rw (has_put s slots) refl;
          }))
    ]

-- ---- all pieces of a message, in any order

more_came : (ks : List ℕ) (k : ℕ) (js : List ℕ) → list_all (came ks) js ≡ true → list_all (came (k ∷ ks)) js ≡ true
more_came ks k [] all = refl
more_came ks k (j ∷ js) all =
    let here : came ks j ≡ true = and_first (came ks j) (list_all (came ks) js) all in
    let found : came (k ∷ ks) j ≡ true = or_right (k == j) (came ks j) here in
    rw found (more_came ks k js (and_second (came ks j) (list_all (came ks) js) all))

before_all : (w : List Bool) (ks : List ℕ) (k : ℕ) → all_came w (k ∷ ks) ≡ false → all_came w ks ≡ false
before_all w ks k missing = elim (cases_Bool (all_came w ks)) [
  | inl e ↦ absurd (let all : all_came w (k ∷ ks) ≡ true = more_came ks k (places (piece_count w)) e in true_false (sym all ∙ missing))
  | inr e ↦ e
]

held_after : (flow : Flow) (number : ℕ) (w : List Bool) (slots : List SlotState) (ks : List ℕ) → Holds flow number w [] slots → All (λ j. j < piece_count w) ks
    → all_came w ks ≡ false → Holds flow number w ks (slots_after flow number w slots ks)
held_after flow number w slots [] h all missing = h
held_after flow number w slots (k ∷ ks) h all missing =
    still_held flow number w (slots_after flow number w slots ks) ks k
    (held_after flow number w slots ks h (All-tail (λ j. j < piece_count w) k ks all) (before_all w ks k missing))
    (All-head (λ j. j < piece_count w) k ks all) missing

pub any_order : (flow : Flow) (number : ℕ) (w : List Bool) (slots : List SlotState) (ks : List ℕ) (k : ℕ) → Holds flow number w [] slots → All (λ j. j < piece_count w) (k ∷ ks)
    → all_came w ks ≡ false → answer_of (slots_after flow number w slots ks) (piece_packet flow number w k) ≡ answer_to w ks k
any_order flow number w slots ks k h all missing =
    answered flow number w (slots_after flow number w slots ks) ks k
    (held_after flow number w slots ks h (All-tail (λ j. j < piece_count w) k ks all) missing) (All-head (λ j. j < piece_count w) k ks all)

-- ---- a message among others

any_slot : (slots : List SlotState) (f : Flow) → is_some (slot_of slots f) ≡ true → list_any (λ s. same_flow f s.flow) slots ≡ true
any_slot [] f h = absurd (cc)
any_slot (t ∷ ts) f h = elim (cases_Bool (same_flow f t.flow)) [
  | inl e ↦ rw e refl
  | inr e ↦ rw e (any_slot ts f (rw e at h))
]

room_there : (slots : List SlotState) (f : Flow) → is_some (slot_of slots f) ≡ true → has_room slots f ≡ true
room_there slots f h = rw (any_slot slots f h) refl

pub room_of : (slots : List SlotState) (f : Flow) (s : SlotState) → slot_of slots f ≡ Some s → has_room slots f ≡ true
room_of slots f s h = room_there slots f (ap is_some h)

-- where pieces are held there is a slot
slot_there : (o : Option SlotState) (number : ℕ) → 0 < length (pieces_for o number) → is_some o ≡ true
slot_there None number some = absurd (omega arith)
slot_there (Some s) number some = refl

any_some : {X : Type 0} (p : X → Bool) (xs : List X) → list_any p xs ≡ true → 0 < length xs
any_some p [] any = absurd (cc)
any_some p (x ∷ xs) any = omega arith

-- where one place of a body came, some of its pieces are there
some_came : (flow : Flow) (number : ℕ) (w : List Bool) (ks : List ℕ) (j : ℕ) → j < piece_count w → came ks j ≡ true → 0 < length (pieces_of flow number w ks)
some_came flow number w ks j lt here =
    let any : list_any (λ (i : ℕ). i == j) (filter (came ks) (places (piece_count w))) ≡ true = any_in_range (came ks) 0 (piece_count w) j (omega arith) (omega (arith, lt)) ∙ here in
    let some : 0 < length (filter (came ks) (places (piece_count w))) = any_some (λ (i : ℕ). i == j) (filter (came ks) (places (piece_count w))) any in
    omega (arith, some, length-map (filter (came ks) (places (piece_count w))) (piece_packet flow number w))

-- what leaves the flow's slot unchanged leaves the message held
untouched : (flow : Flow) (number : ℕ) (w : List Bool) (old new : List SlotState) (ks : List ℕ) (j : ℕ) → Holds flow number w ks old → j < piece_count w → came ks j ≡ true
    → slot_of new flow ≡ slot_of old flow → Holds flow number w ks new
untouched flow number w old new ks j h lt here same =
    let some : 0 < length (pieces_for (slot_of old flow) number) = omega (arith, ap length h.pieces, some_came flow number w ks j lt here) in
    record {
      pieces = ap (λ (o : Option SlotState). pieces_for o number) same ∙ h.pieces;
      room = room_there new flow (ap is_some same ∙ slot_there (slot_of old flow) number some);
    }

first_came : (ks : List ℕ) (j : ℕ) → came (j ∷ ks) j ≡ true
first_came ks j = let here : (j == j) ≡ true = eq-eqb j j refl in rw here refl

pub undisturbed : (flow : Flow) (number : ℕ) (w : List Bool) (slots : List SlotState) (ks : List ℕ) (j : ℕ) (p : PacketFields) → Holds flow number w (j ∷ ks) slots → j < piece_count w
    → same_flow flow (flow_of p) ≡ false → Holds flow number w (j ∷ ks) (added slots p)
undisturbed flow number w slots ks j p h lt other = untouched flow number w slots (added slots p) (j ∷ ks) j h lt (first_came ks j) (slot_added_other slots p flow other)

pub still_there : (flow : Flow) (number : ℕ) (w : List Bool) (slots : List SlotState) (ks : List ℕ) (j : ℕ) (g : Flow) → Holds flow number w (j ∷ ks) slots → j < piece_count w
    → same_flow flow g ≡ false → Holds flow number w (j ∷ ks) (without slots g)
still_there flow number w slots ks j g h lt other = untouched flow number w slots (without slots g) (j ∷ ks) j h lt (first_came ks j) (slot_without_other slots flow g other)

came_before : (events : List Event) (ks : List ℕ) (j : ℕ) → came ks j ≡ true → came (places_in events ks) j ≡ true
came_before [] ks j here = here
came_before (Piece k ∷ events) ks j here = or_right (k == j) (came (places_in events ks) j) (came_before events ks j here)
came_before (Other p ∷ events) ks j here = came_before events ks j here
came_before (Emptied g ∷ events) ks j here = came_before events ks j here

held_among : (flow : Flow) (number : ℕ) (w : List Bool) (slots : List SlotState) (ks : List ℕ) (j : ℕ) (events : List Event) → Holds flow number w ks slots → j < piece_count w
    → came ks j ≡ true → All (IsAmongOthers flow w) events → all_came w (places_in events ks) ≡ false
    → Holds flow number w (places_in events ks) (after_events flow number w slots events)
held_among flow number w slots ks j [] h lt here all missing = h
held_among flow number w slots ks j (Piece k ∷ events) h lt here all missing =
    still_held flow number w (after_events flow number w slots events) (places_in events ks) k
    (held_among flow number w slots ks j events h lt here (All-tail (IsAmongOthers flow w) (Piece k) events all) (before_all w (places_in events ks) k missing))
    (All-head (IsAmongOthers flow w) (Piece k) events all) missing
held_among flow number w slots ks j (Other p ∷ events) h lt here all missing =
    let before : List SlotState = after_events flow number w slots events in
    untouched flow number w before (added before p) (places_in events ks) j
    (held_among flow number w slots ks j events h lt here (All-tail (IsAmongOthers flow w) (Other p) events all) missing) lt (came_before events ks j here)
    (slot_added_other before p flow (All-head (IsAmongOthers flow w) (Other p) events all))
held_among flow number w slots ks j (Emptied g ∷ events) h lt here all missing =
    let before : List SlotState = after_events flow number w slots events in
    untouched flow number w before (without before g) (places_in events ks) j
    (held_among flow number w slots ks j events h lt here (All-tail (IsAmongOthers flow w) (Emptied g) events all) missing) lt (came_before events ks j here)
    (slot_without_other before flow g (All-head (IsAmongOthers flow w) (Emptied g) events all))

pub interleaved : (flow : Flow) (number : ℕ) (w : List Bool) (slots : List SlotState) (ks : List ℕ) (j k : ℕ) (events : List Event) → Holds flow number w (j ∷ ks) slots → j < piece_count w
    → k < piece_count w → All (IsAmongOthers flow w) events → all_came w (places_in events (j ∷ ks)) ≡ false
    → answer_of (after_events flow number w slots events) (piece_packet flow number w k) ≡ answer_to w (places_in events (j ∷ ks)) k
interleaved flow number w slots ks j k events h here there all missing =
    answered flow number w (after_events flow number w slots events) (places_in events (j ∷ ks)) k
    (held_among flow number w slots (j ∷ ks) j events h here (first_came ks j) all missing) there
