-- What slots hold.
use Rattle.std.proofs.Common.{◌≡◌, ℕ, ◌+◌, ◌*◌, ◌%◌, ◌<◌, ◌≤◌, Bool, true, false, not, List, [], ◌∷◌, ◌++◌, length, refl, ap, sym, ◌∙◌, subst, arith, All, Contains, None, Some, filter, map, IsPermutation, length-append, replicate, nat_lt, ◌==◌, ◌||◌, ◌&&◌, eqb-true, eq-eqb, le-ltb, inl, inr, if◌then◌else◌}
use Rattle.std.specs.List.{list_any, range_with_len}
use Rattle.std.proofs.lemmas.Bool.{cases_Bool, or_left}
use Rattle.std.proofs.lemmas.Bool.Decides.{nat_tests}
use Rattle.std.proofs.lemmas.List.{nil_from_length}
use Rattle.std.proofs.lemmas.List.Elements.{All-cons, All-nil, All-head, All-tail, All-weaker, All-append, All-contains_itself, Contains-append_left, Contains-push}
use Rattle.std.proofs.lemmas.List.Sorted.{IsPermutation-refl}
use Rattle.std.proofs.lemmas.Option.{none-some}
use Rattle.bit_messages.specs.Body.{is_one, has_mark, text_of, strip_fault}
use Rattle.bit_messages.specs.declared.fault.BitFault.TheVariants as bit_fault
use Rattle.bit_messages.proofs.lemmas.{IsSplit, split_text}
use Rattle.interface.specs.Flow.{same_flow, flow_before}
use Rattle.interface.specs.declared.address.Flow.{Flow}
use Rattle.packetiser.specs.PacketFields.{PacketFields, IsPacket, IsPiece, Carries, flow_of}
use Rattle.packetiser.specs.Pieces.{IsBodySize}
use Rattle.packetiser.specs.Slots.{SlotState, IsTable, IsPieceFor, slot_of, pieces_for, kept_for, gathered, with_piece, put, without, outcome_of, answer_of, answer_by, added, added_by, has_room, is_old, rules_out, is_whole_from, joined_pieces, packets_in, in_some_order}
use Rattle.packetiser.specs.Rejoining.{AreAmong, IsGathered, IsRejoined, HasBodySize}
use Rattle.packetiser.specs.declared.packet.PacketKind.{PacketKind}
use Rattle.packetiser.specs.declared.packet.PacketKind.TheVariants as kind
use Rattle.packetiser.specs.declared.reassembly.Outcome.{Outcome}
use Rattle.packetiser.specs.declared.reassembly.Outcome.TheVariants as outcome
use Rattle.packetiser.specs.declared.reassembly.Added.{Added}
use Rattle.packetiser.specs.declared.reassembly.Added.TheVariants as answer
use Rattle.packetiser.proofs.Slots.{All_with_piece, kept_sound, kept_packets, kept_table, without_table}
use Rattle.interface.proofs.lemmas.{and_first, and_second}

-- ---- a property of all that is held

pub All_left : (P : PacketFields → Type 0) (xs ys : List PacketFields) → All P (xs ++ ys) → All P xs
All_left P [] ys all = All-nil P
All_left P (x ∷ xs) ys all = All-cons P x xs (All-head P x (xs ++ ys) all) (All_left P xs ys (All-tail P x (xs ++ ys) all))

pub All_right : (P : PacketFields → Type 0) (xs ys : List PacketFields) → All P (xs ++ ys) → All P ys
All_right P [] ys all = all
All_right P (x ∷ xs) ys all = All_right P xs ys (All-tail P x (xs ++ ys) all)

All_put : (P : PacketFields → Type 0) (s : SlotState) (slots : List SlotState) → All P s.pieces → All P (packets_in slots) → All P (packets_in (put s slots))
All_put P s [] here all = All-append P s.pieces [] here (All-nil P)
All_put P s (t ∷ ts) here all = elim (cases_Bool (same_flow s.flow t.flow)) [
  | inl e ↦ rw e (All-append P s.pieces (packets_in ts) here (All_right P t.pieces (packets_in ts) all))
  | inr e ↦ elim (cases_Bool (flow_before t.flow s.flow)) [
    | inl b ↦ rw (e, b) (All-append P t.pieces (packets_in (put s ts)) (All_left P t.pieces (packets_in ts) all) (All_put P s ts here (All_right P t.pieces (packets_in ts) all)))
    | inr b ↦ rw (e, b) (All-append P s.pieces (t.pieces ++ packets_in ts) here all)
  ]
]

All_without : (P : PacketFields → Type 0) (test : SlotState → Bool) (slots : List SlotState) → All P (packets_in slots) → All P (packets_in (filter test slots))
All_without P test [] all = all
All_without P test (t ∷ ts) all = elim (cases_Bool (test t)) [
  | inl e ↦ rw e (All-append P t.pieces (packets_in (filter test ts)) (All_left P t.pieces (packets_in ts) all) (All_without P test ts (All_right P t.pieces (packets_in ts) all)))
  | inr e ↦ rw e (All_without P test ts (All_right P t.pieces (packets_in ts) all))
]

All_kept_for : (P : PacketFields → Type 0) (slots : List SlotState) (f : Flow) (number : ℕ) → All P (packets_in slots) → All P (pieces_for (slot_of slots f) number)
All_kept_for P [] f number all = All-nil P
All_kept_for P (t ∷ ts) f number all = elim (cases_Bool (same_flow f t.flow)) [
  | inl e ↦ elim (cases_Bool (t.number == number)) [
    | inl n ↦ rw (e, n) (All_left P t.pieces (packets_in ts) all)
    | inr n ↦ rw (e, n) (All-nil P)
  ]
  | inr e ↦ rw e (All_kept_for P ts f number (All_right P t.pieces (packets_in ts) all))
]

All_added : (P : PacketFields → Type 0) (o : Outcome) (slots : List SlotState) (p : PacketFields) → P p → All P (packets_in slots) → All P (packets_in (added_by o slots p))
All_added P outcome.Kept slots p here all =
    All_put P (record { flow = flow_of p; number = p.number; pieces = gathered slots p }) slots
    (All_with_piece P p (kept_for slots p) here (All_kept_for P slots (flow_of p) p.number all)) all
All_added P outcome.Whole slots p here all = All_without P (λ s. not (same_flow (flow_of p) s.flow)) slots all
All_added P outcome.Old slots p here all = all
All_added P outcome.Full slots p here all = all

-- what is held is among it and one packet more
held_among : (slots : List SlotState) (p : PacketFields) → AreAmong (packets_in slots) (packets_in slots ++ p ∷ [])
held_among slots p = All-weaker (Contains (packets_in slots)) (Contains (packets_in slots ++ p ∷ [])) (λ q h. Contains-append_left (packets_in slots) (p ∷ []) q h) (packets_in slots) (All-contains_itself (packets_in slots))

pub added_only : (slots : List SlotState) (p : PacketFields) → AreAmong (packets_in (added slots p)) (packets_in slots ++ p ∷ [])
added_only slots p = All_added (Contains (packets_in slots ++ p ∷ [])) (outcome_of slots p) slots p (Contains-push (packets_in slots) p) (held_among slots p)

pub discarded_only : (slots : List SlotState) (f : Flow) → AreAmong (packets_in (without slots f)) (packets_in slots)
discarded_only slots f = All_without (Contains (packets_in slots)) (λ s. not (same_flow f s.flow)) slots (All-contains_itself (packets_in slots))

-- ---- whole messages

whole_from : (old whole room : Bool) → (if old then outcome.Old else (if whole then outcome.Whole else (if room then outcome.Kept else outcome.Full))) ≡ outcome.Whole → whole ≡ true
whole_from true whole room h = absurd (cc)
whole_from false true room h = refl
whole_from false false true h = absurd (cc)
whole_from false false false h = absurd (cc)

places_of_whole : (place : ℕ) (ps : List PacketFields) → is_whole_from place ps ≡ true → map (λ q. q.place) ps ≡ range_with_len place (length ps)
places_of_whole place [] whole = refl
places_of_whole place (q ∷ qs) whole =
    let at : q.place ≡ place = eqb-true q.place place (and_first (q.place == place) (if q.last then length qs == 0 else is_whole_from (place + 1) qs) whole) in
    let behind : (if q.last then length qs == 0 else is_whole_from (place + 1) qs) ≡ true = and_second (q.place == place) (if q.last then length qs == 0 else is_whole_from (place + 1) qs) whole in
    let rest : map (λ (r : PacketFields). r.place) qs ≡ range_with_len (place + 1) (length qs) = elim (cases_Bool q.last) [
      | inl e ↦ (
          let none : (length qs == 0) ≡ true = rw e at behind in
          let P : List PacketFields → Type 0 = λ rs. map (λ (r : PacketFields). r.place) rs ≡ range_with_len (place + 1) (length rs) in
          subst P (sym (nil_from_length qs (eqb-true (length qs) 0 none))) refl)
      | inr e ↦ places_of_whole (place + 1) qs (rw e at behind)
    ] in
    ap (λ (n : ℕ). n ∷ map (λ (r : PacketFields). r.place) qs) at ∙ ap (λ (ns : List ℕ). place ∷ ns) rest

pub whole_gathered : (slots : List SlotState) (p : PacketFields) → IsTable slots → p.kind ≡ kind.Data → outcome_of slots p ≡ outcome.Whole
    → IsGathered slots p (gathered slots p) × (answer_of slots p ≡ answer.Whole (joined_pieces (gathered slots p)))
whole_gathered slots p h piece out =
    let whole : is_whole_from 0 (gathered slots p) ≡ true = whole_from (is_old (kept_for slots p) p) (is_whole_from 0 (gathered slots p)) (has_room slots (flow_of p)) out in (
      record {
        of_message = All_with_piece (IsPieceFor (flow_of p) p.number) p (kept_for slots p) (record { data_kind = piece; flow = refl; same_number = refl }) (kept_sound slots (flow_of p) p.number h.sound);
        among = All_with_piece (Contains (packets_in slots ++ p ∷ [])) p (kept_for slots p) (Contains-push (packets_in slots) p) (All_kept_for (Contains (packets_in slots ++ p ∷ [])) slots (flow_of p) p.number (held_among slots p));
        in_places = places_of_whole 0 (gathered slots p) whole;
        whole = whole;
      },
      ap (λ (o : Outcome). answer_by o slots p) out,
    )

-- ---- the size of a whole body

-- this many bits from a place on, up to the end of the last piece
record FitsFrom (place size : ℕ) : Type 0 where
  pub some : 0 < size
  pub units : size % 16 ≡ 0
  pub most : 1008 * place + size ≤ 8064

piece_of : (q : PacketFields) → IsPacket q → q.kind ≡ kind.Data → IsPiece q.place q.last (length q.bits)
piece_of q h piece = let P : PacketKind → Type 0 = λ k. Carries k q.place q.last (length q.bits) in subst P piece h.body

size_from : (f : Flow) (number place : ℕ) (ps : List PacketFields) → All (IsPieceFor f number) ps → All IsPacket ps → is_whole_from place ps ≡ true → FitsFrom place (length (joined_pieces ps))
size_from f number place [] pieces packets whole = absurd (cc)
size_from f number place (q ∷ qs) pieces packets whole =
    let here : IsPieceFor f number q = All-head (IsPieceFor f number) q qs pieces in
    let packet : IsPacket q = All-head IsPacket q qs packets in
    let piece : IsPiece q.place q.last (length q.bits) = piece_of q packet here.data_kind in
    let low : q.place < 8 = packet.place in
    let at : q.place ≡ place = eqb-true q.place place (and_first (q.place == place) (if q.last then length qs == 0 else is_whole_from (place + 1) qs) whole) in
    let behind : (if q.last then length qs == 0 else is_whole_from (place + 1) qs) ≡ true = and_second (q.place == place) (if q.last then length qs == 0 else is_whole_from (place + 1) qs) whole in
    let all : length (joined_pieces (q ∷ qs)) ≡ length q.bits + length (joined_pieces qs) = length-append q.bits (joined_pieces qs) in
    elim (cases_Bool q.last) [
      | inl e ↦ (
          let none : (length qs == 0) ≡ true = rw e at behind in
          let rest : length (joined_pieces qs) ≡ 0 = ap (λ (rs : List PacketFields). length (joined_pieces rs)) (nil_from_length qs (eqb-true (length qs) 0 none)) in
          record { some = omega (arith, all, piece.some); units = omega (arith, all, rest, piece.units); most = omega (arith, all, rest, piece.most) })
      | inr e ↦ (
          let rest : FitsFrom (place + 1) (length (joined_pieces qs)) = size_from f number (place + 1) qs (All-tail (IsPieceFor f number) q qs pieces) (All-tail IsPacket q qs packets) (rw e at behind) in
          let full : length q.bits ≡ 1008 = piece.full e in
          record { some = omega (arith, all, full); units = omega (arith, all, full, rest.units); most = omega (arith, all, full, rest.most) })
    ]

-- the answer says what became of a packet
outcome_from : (o : Outcome) (slots : List SlotState) (p : PacketFields) (w : List Bool) → answer_by o slots p ≡ answer.Whole w → o ≡ outcome.Whole
outcome_from outcome.Kept slots p w said = absurd (cc)
outcome_from outcome.Whole slots p w said = refl
outcome_from outcome.Old slots p w said = absurd (cc)
outcome_from outcome.Full slots p w said = absurd (cc)

same_body : (v w : List Bool) → answer.Whole v ≡ answer.Whole w → v ≡ w
same_body v w e = cc

pub rejoined : (slots : List SlotState) (p : PacketFields) (w : List Bool) → IsTable slots → IsPacket p → p.kind ≡ kind.Data → answer_of slots p ≡ answer.Whole w → IsRejoined slots p w
rejoined slots p w h format piece said =
    let out : outcome_of slots p ≡ outcome.Whole = outcome_from (outcome_of slots p) slots p w said in
    let both : IsGathered slots p (gathered slots p) × (answer_of slots p ≡ answer.Whole (joined_pieces (gathered slots p))) = whole_gathered slots p h piece out in
    let bits : joined_pieces (gathered slots p) ≡ w = same_body (joined_pieces (gathered slots p)) w (sym both.1 ∙ said) in
    let packets : All IsPacket (gathered slots p) = All_with_piece IsPacket p (kept_for slots p) format (kept_packets slots (flow_of p) p.number h.sound) in
    let fits : FitsFrom 0 (length (joined_pieces (gathered slots p))) = size_from (flow_of p) p.number 0 (gathered slots p) both.0.of_message packets both.0.whole in
    let size : length w ≡ length (joined_pieces (gathered slots p)) = ap length (sym bits) in
    record {
      one_message = both.0;
      bits = sym bits;
      size = record { some = omega (arith, size, fits.some); units = omega (arith, size, fits.units); most = omega (arith, size, fits.most) };
    }

sized_by : (a : Added) (slots : List SlotState) (p : PacketFields) → IsTable slots → IsPacket p → p.kind ≡ kind.Data → answer_of slots p ≡ a → HasBodySize a
sized_by answer.Kept slots p h format piece said = tt
sized_by (answer.Whole w) slots p h format piece said = (rejoined slots p w h format piece said).size
sized_by answer.Old slots p h format piece said = tt
sized_by answer.Full slots p h format piece said = tt

pub answer_sized : (a : Added) (slots : List SlotState) (p : PacketFields) → IsTable slots → IsPacket p → p.kind ≡ kind.Data → a ≡ answer_of slots p → HasBodySize a
answer_sized a slots p h format piece said = sized_by a slots p h format piece (sym said)

stripped_by : (w : List Bool) (marked : Bool) → IsBodySize (length w) → has_mark w ≡ marked → strip_fault w ≡ (if marked then None else Some bit_fault.NoMark)
stripped_by w false h e = rw e refl
stripped_by w true h e =
    let split : IsSplit w = split_text w e in
    let longer : length w ≡ length (text_of w) + length (true ∷ replicate split.zeros false) = ap length split.padded ∙ length-append (text_of w) (true ∷ replicate split.zeros false) in
    let within : length (text_of w) ≤ 8063 = omega (arith, longer, h.most) in
    let short : nat_lt 8063 (length (text_of w)) ≡ false = le-ltb 8063 (length (text_of w)) within in
    let units : (length w % 16 == 0) ≡ true = eq-eqb (length w % 16) 0 h.units in
    rw (e, short, units) refl

pub stripped : (w : List Bool) → IsBodySize (length w) → strip_fault w ≡ (if has_mark w then None else Some bit_fault.NoMark)
stripped w h = stripped_by w (has_mark w) h refl

-- ---- the table

table_by : (o : Outcome) (slots : List SlotState) (p : PacketFields) → outcome_of slots p ≡ o → IsTable slots → IsPacket p → p.kind ≡ kind.Data → IsTable (added_by o slots p)
table_by outcome.Kept slots p out h format piece = kept_table slots p h format piece out
table_by outcome.Whole slots p out h format piece = without_table slots (flow_of p) h
table_by outcome.Old slots p out h format piece = h
table_by outcome.Full slots p out h format piece = h

pub added_table : (slots : List SlotState) (p : PacketFields) → IsTable slots → IsPacket p → p.kind ≡ kind.Data → IsTable (added slots p)
added_table slots p h format piece = table_by (outcome_of slots p) slots p refl h format piece

pub named_once : (slots : List SlotState) → IsPermutation (in_some_order slots) slots
unfolding in_some_order
named_once slots = IsPermutation-refl slots

-- ---- messages of one packet

pub none_taken : (slots : List SlotState) (f : Flow) → slot_of slots f ≡ None → without slots f ≡ slots
none_taken [] f none = refl
none_taken (t ∷ ts) f none = elim (cases_Bool (same_flow f t.flow)) [
  | inl e ↦ absurd (none-some t (sym (rw e at none)))
  | inr e ↦ rw e (ap (λ (us : List SlotState). t ∷ us) (none_taken ts f (rw e at none)))
]

or_third : (a b c : Bool) → c ≡ true → (a || b || c) ≡ true
or_third true b c e = refl
or_third false true c e = refl
or_third false false c e = e

old_by : (p : PacketFields) (ps : List PacketFields) → p.place ≡ 0 → p.last ≡ true → 0 < length ps → is_old ps p ≡ true
old_by p [] first last some = absurd (omega arith)
old_by p (q ∷ qs) first last some =
    or_left (rules_out p q) (is_old qs p)
    (elim (cases_Bool (q.place == p.place)) [
      | inl e ↦ rw e refl
      | inr e ↦ (
          let above : nat_lt p.place q.place ≡ true = grind (arith, nat_tests, e, first) in
          or_third (q.place == p.place) (q.last && nat_lt q.place p.place) (p.last && nat_lt p.place q.place) (rw (last, above) refl))
    ])

pub single_old : (slots : List SlotState) (p : PacketFields) → p.place ≡ 0 → p.last ≡ true → 0 < length (kept_for slots p) → (answer_of slots p ≡ answer.Old) × (added slots p ≡ slots)
single_old slots p first last some =
    let old : is_old (kept_for slots p) p ≡ true = old_by p (kept_for slots p) first last some in
    let out : outcome_of slots p ≡ outcome.Old = rw old refl in
    (ap (λ (o : Outcome). answer_by o slots p) out, ap (λ (o : Outcome). added_by o slots p) out)

-- ---- the mark of a body

any_append : {X : Type 0} (p : X → Bool) (xs ys : List X) → list_any p (xs ++ ys) ≡ (list_any p xs || list_any p ys)
any_append p [] ys = refl
any_append p (x ∷ xs) ys = rw (any_append p xs ys) (or_assoc (p x) (list_any p xs) (list_any p ys))
  where
    or_assoc : (a b c : Bool) → (a || (b || c)) ≡ ((a || b) || c)
    or_assoc true b c = refl
    or_assoc false b c = refl

or_swap : (a b c : Bool) → (a || (b || c)) ≡ (b || (a || c))
or_swap true true c = refl
or_swap true false c = refl
or_swap false b c = refl

-- the pieces hold a mark where one of them does
mark_joined : (p : PacketFields) (qs : List PacketFields) → has_mark (joined_pieces (with_piece p qs)) ≡ (has_mark p.bits || list_any (λ q. has_mark q.bits) qs)
mark_joined p [] = any_append is_one p.bits []
mark_joined p (q ∷ qs) = elim (cases_Bool (nat_lt q.place p.place)) [
  | inl e ↦ rw e (any_append is_one q.bits (joined_pieces (with_piece p qs)) ∙ ap (λ (b : Bool). has_mark q.bits || b) (mark_joined p qs) ∙ or_swap (has_mark q.bits) (has_mark p.bits) (list_any (λ (r : PacketFields). has_mark r.bits) qs))
  | inr e ↦ rw e (any_append is_one p.bits (joined_pieces (q ∷ qs)) ∙ ap (λ (b : Bool). has_mark p.bits || b) (mark_all (q ∷ qs)))
]
  where
    mark_all : (rs : List PacketFields) → has_mark (joined_pieces rs) ≡ list_any (λ r. has_mark r.bits) rs
    mark_all [] = refl
    mark_all (r ∷ rs) = any_append is_one r.bits (joined_pieces rs) ∙ ap (λ (b : Bool). has_mark r.bits || b) (mark_all rs)

pub mark_first : (p : PacketFields) (qs : List PacketFields) → has_mark p.bits ≡ true → has_mark (joined_pieces (with_piece p qs)) ≡ true
mark_first p qs here = mark_joined p qs ∙ ap (λ (b : Bool). b || list_any (λ (q : PacketFields). has_mark q.bits) qs) here

pub mark_later : (p : PacketFields) (qs : List PacketFields) → has_mark p.bits ≡ false → has_mark (joined_pieces (with_piece p qs)) ≡ list_any (λ q. has_mark q.bits) qs
mark_later p qs here = mark_joined p qs ∙ ap (λ (b : Bool). b || list_any (λ (q : PacketFields). has_mark q.bits) qs) here
