-- Slots and the pieces in them.
use Rattle.std.proofs.Common.{◌≡◌, ℕ, ◌+◌, ◌<◌, ◌≤◌, Bool, true, false, not, List, [], ◌∷◌, ◌++◌, length, get_or, set, take, drop, refl, ap, sym, ◌∙◌, subst, arith, All, suc, Option, Some, None, insert, filter, unwrap_or, nat_lt, ◌==◌, ◌||◌, ◌&&◌, eqb-true, inl, inr, if◌then◌else◌}
use Rattle.std.specs.List.{position, position_or_len, list_any, find, slice_get}
use Rattle.std.proofs.lemmas.Bool.{cases_Bool}
use Rattle.std.proofs.lemmas.Bool.Decides.{nat_tests}
use Rattle.std.proofs.lemmas.List.{length-set, append_assoc}
use Rattle.std.proofs.lemmas.List.Elements.{All-cons, All-nil, All-head, All-tail, All-weaker, All-filter}
use Rattle.std.proofs.lemmas.Grind.{flat_map-append}
use Rattle.std.proofs.lemmas.List.Folds.{find_at}
use Rattle.std.proofs.lemmas.List.Sums.{passes_at_first}
use Rattle.std.proofs.lemmas.Option.{slice_get_read, same_Some, none-some}
use Rattle.interface.specs.Flow.{same_flow, flow_before}
use Rattle.interface.proofs.lemmas.{flow_before_else, flow_before_trans, same_flow-true, or_first, or_second}
use Rattle.interface.specs.declared.address.Flow.{Flow}
use Rattle.packetiser.specs.PacketFields.{PacketFields, IsPacket, flow_of}
use Rattle.packetiser.specs.Slots.{SlotState, IsSlot, IsInOrder, IsTable, IsPieceFor, PlacesRise, slot_of, pieces_for, kept_for, gathered, with_piece, put, without, kept, outcome_of, has_room, is_old, rules_out, is_whole_from, joined_pieces}
use Rattle.packetiser.specs.declared.packet.PacketKind.TheVariants as kind
use Rattle.packetiser.specs.declared.reassembly.Outcome.TheVariants as outcome

-- ---- first places

pub position_within : {X : Type 0} (p : X → Bool) (xs : List X) → position_or_len p xs ≤ length xs
position_within p [] = omega arith
position_within p (x ∷ xs) = elim (cases_Bool (p x)) [
  | inl e ↦ rw e (omega arith)
  | inr e ↦ rw e (omega (arith, position_within p xs))
]

pub position_given : {X : Type 0} (p : X → Bool) (xs : List X) → unwrap_or (position p xs) (length xs) ≡ position_or_len p xs
position_given p xs = elim (cases_Bool (nat_lt (position_or_len p xs) (length xs))) [
  | inl e ↦ rw e refl
  | inr e ↦ (let within : position_or_len p xs ≤ length xs = position_within p xs in let end : length xs ≡ position_or_len p xs = grind (arith, nat_tests, e, within) in rw e end)
]

-- an element passes where the first place that passes is within
pub any_within : {X : Type 0} (p : X → Bool) (xs : List X) → list_any p xs ≡ nat_lt (position_or_len p xs) (length xs)
any_within p [] = refl
any_within p (x ∷ xs) = elim (cases_Bool (p x)) [
  | inl e ↦ (let here : nat_lt 0 (suc (length xs)) ≡ true = grind (arith, nat_tests) in rw e (sym here))
  | inr e ↦ rw e (any_within p xs ∙ grind (arith, nat_tests))
]

pub record IsAt {X : Type 0} (p : X → Bool) (xs : List X) (at : ℕ) : Type 0 where
  pub first : position_or_len p xs ≡ at
  pub within : at < length xs
  pub any : list_any p xs ≡ true

pub position_some : {X : Type 0} (p : X → Bool) (xs : List X) (at : ℕ) → position p xs ≡ Some at → IsAt p xs at
position_some p xs at h = elim (cases_Bool (nat_lt (position_or_len p xs) (length xs))) [
  | inl e ↦ (
      let first : position_or_len p xs ≡ at = same_Some (position_or_len p xs) at (rw e at h) in
      let lt : position_or_len p xs < length xs = grind (arith, nat_tests, e) in
      record { first = first; within = omega arith; any = any_within p xs ∙ e })
  | inr e ↦ absurd (none-some at (rw e at h))
]

pub position_none : {X : Type 0} (p : X → Bool) (xs : List X) → position p xs ≡ None → list_any p xs ≡ false
position_none p xs h = elim (cases_Bool (nat_lt (position_or_len p xs) (length xs))) [
  | inl e ↦ absurd (none-some (position_or_len p xs) (sym (rw e at h)))
  | inr e ↦ any_within p xs ∙ e
]

pub find_none : {X : Type 0} (p : X → Bool) (xs : List X) → list_any p xs ≡ false → find p xs ≡ None
find_none p [] h = refl
find_none p (x ∷ xs) h = elim (cases_Bool (p x)) [
  | inl e ↦ absurd (let t : true ≡ false = rw e at h in cc)
  | inr e ↦ rw e (find_none p xs (rw e at h))
]

-- ---- tests

-- ---- pieces

insert_later : {X : Type 0} (x : X) (xs : List X) (n : ℕ) (y : X) → insert (x ∷ xs) (1 + n) y ≡ x ∷ insert xs n y
insert_later x xs n y = let more : 1 + n ≡ suc n = omega arith in rw more refl

set_later : {X : Type 0} (x : X) (xs : List X) (n : ℕ) (y : X) → set (x ∷ xs) (1 + n) y ≡ x ∷ set xs n y
set_later x xs n y = let more : 1 + n ≡ suc n = omega arith in rw more refl

pub with_piece_is : (p : PacketFields) (ps : List PacketFields) → with_piece p ps ≡ insert ps (position_or_len (λ q. not (nat_lt q.place p.place)) ps) p
with_piece_is p [] = refl
with_piece_is p (q ∷ qs) = elim (cases_Bool (nat_lt q.place p.place)) [
  | inl e ↦ rw e (ap (λ (r : List PacketFields). q ∷ r) (with_piece_is p qs) ∙ sym (insert_later q qs (position_or_len (λ (r : PacketFields). not (nat_lt r.place p.place)) qs) p))
  | inr e ↦ rw e refl
]

pub All_with_piece : (P : PacketFields → Type 0) (p : PacketFields) (ps : List PacketFields) → P p → All P ps → All P (with_piece p ps)
All_with_piece P p [] here all = All-cons P p [] here all
All_with_piece P p (q ∷ qs) here all = elim (cases_Bool (nat_lt q.place p.place)) [
  | inl e ↦ rw e (All-cons P q (with_piece p qs) (All-head P q qs all) (All_with_piece P p qs here (All-tail P q qs all)))
  | inr e ↦ rw e (All-cons P p (q ∷ qs) here all)
]

-- a piece that isn't old is at a place of its own
rise_with_piece : (p : PacketFields) (ps : List PacketFields) → is_old ps p ≡ false → PlacesRise ps → PlacesRise (with_piece p ps)
rise_with_piece p [] new rise = (All-nil (λ r. p.place < r.place), tt)
rise_with_piece p (q ∷ qs) new rise =
    let apart : (q.place == p.place) ≡ false = or_first (q.place == p.place) (q.last && nat_lt q.place p.place)
    (or_first (q.place == p.place || q.last && nat_lt q.place p.place) (p.last && nat_lt p.place q.place) (or_first (rules_out p q) (is_old qs p) new)) in
    elim (cases_Bool (nat_lt q.place p.place)) [
      | inl e ↦ (
          let below : q.place < p.place = grind (arith, nat_tests, e) in
          rw e (All_with_piece (λ r. q.place < r.place) p qs below rise.0, rise_with_piece p qs (or_second (rules_out p q) (is_old qs p) new) rise.1))
      | inr e ↦ (
          let above : p.place < q.place = grind (arith, nat_tests, e, apart) in
          let behind : All (λ (r : PacketFields). p.place < r.place) qs = All-weaker (λ r. q.place < r.place) (λ r. p.place < r.place) (λ r more. omega (arith, above, more)) qs rise.0 in
          rw e (All-cons (λ r. p.place < r.place) q qs above behind, rise))
    ]

length-with_piece : (p : PacketFields) (ps : List PacketFields) → length (with_piece p ps) ≡ length ps + 1
length-with_piece p [] = refl
length-with_piece p (q ∷ qs) = elim (cases_Bool (nat_lt q.place p.place)) [
  | inl e ↦ rw e (omega (arith, length-with_piece p qs))
  | inr e ↦ rw e (omega arith)
]

-- ---- the slot of a flow

-- one of the elements, all of which have a property, passes the test
found : {X : Type 0} (Q : X → Type 0) (p : X → Bool) (R : Type 0) (xs : List X) → All Q xs → list_any p xs ≡ true → ((x : X) → Q x → p x ≡ true → R) → R
found Q p R [] all any go = absurd (cc)
found {X} Q p R (x ∷ xs) all any go = elim (cases_Bool (p x)) [
  | inl e ↦ go x (all 0 x (omega arith)) e
  | inr e ↦ found Q p R xs (λ k d lt. all (suc k) d (omega arith)) (rw e at any) go
]

pub All_put : (P : SlotState → Type 0) (s : SlotState) (slots : List SlotState) → P s → All P slots → All P (put s slots)
All_put P s [] here all = All-cons P s [] here (All-nil P)
All_put P s (t ∷ ts) here all = elim (cases_Bool (same_flow s.flow t.flow)) [
  | inl e ↦ rw e (All-cons P s ts here (All-tail P t ts all))
  | inr e ↦ elim (cases_Bool (flow_before t.flow s.flow)) [
    | inl b ↦ rw (e, b) (All-cons P t (put s ts) (All-head P t ts all) (All_put P s ts here (All-tail P t ts all)))
    | inr b ↦ rw (e, b) (All-cons P s (t ∷ ts) here all)
  ]
]

put_new : (s : SlotState) (slots : List SlotState) → list_any (λ t. same_flow s.flow t.flow) slots ≡ false
    → put s slots ≡ insert slots (position_or_len (λ t. not (flow_before t.flow s.flow)) slots) s
put_new s [] none = refl
put_new s (t ∷ ts) none = elim (cases_Bool (same_flow s.flow t.flow)) [
  | inl e ↦ absurd (let no : (same_flow s.flow t.flow || list_any (λ (u : SlotState). same_flow s.flow u.flow) ts) ≡ true = rw e refl in cc)
  | inr e ↦ elim (cases_Bool (flow_before t.flow s.flow)) [
    | inl b ↦ rw (e, b) (ap (λ (us : List SlotState). t ∷ us) (put_new s ts (rw e at none)) ∙ sym (insert_later t ts (position_or_len (λ (u : SlotState). not (flow_before u.flow s.flow)) ts) s))
    | inr b ↦ rw (e, b) refl
  ]
]

put_held : (s : SlotState) (slots : List SlotState) → IsInOrder slots → list_any (λ t. same_flow s.flow t.flow) slots ≡ true
    → put s slots ≡ set slots (position_or_len (λ t. same_flow s.flow t.flow) slots) s
put_held s [] order any = absurd (cc)
put_held s (t ∷ ts) order any = elim (cases_Bool (same_flow s.flow t.flow)) [
  | inl e ↦ rw e refl
  | inr e ↦ (
      let later : list_any (λ (u : SlotState). same_flow s.flow u.flow) ts ≡ true = rw e at any in
      let before : flow_before t.flow s.flow ≡ true =
      found (λ (u : SlotState). flow_before t.flow u.flow ≡ true) (λ (u : SlotState). same_flow s.flow u.flow) (flow_before t.flow s.flow ≡ true) ts order.0 later
      (λ u q same. let P : Flow → Type 0 = λ f. flow_before t.flow f ≡ true in subst P (sym (same_flow-true s.flow u.flow same)) q) in
      rw (e, before) (ap (λ (us : List SlotState). t ∷ us) (put_held s ts order.1 later) ∙ sym (set_later t ts (position_or_len (λ (u : SlotState). same_flow s.flow u.flow) ts) s)))
]

order_put : (s : SlotState) (slots : List SlotState) → IsInOrder slots → IsInOrder (put s slots)
order_put s [] order = (All-nil (λ t. flow_before s.flow t.flow ≡ true), tt)
order_put s (t ∷ ts) order = elim (cases_Bool (same_flow s.flow t.flow)) [
  | inl e ↦ (let P : Flow → Type 0 = λ f. All (λ u. flow_before f u.flow ≡ true) ts in rw e (subst P (sym (same_flow-true s.flow t.flow e)) order.0, order.1))
  | inr e ↦ elim (cases_Bool (flow_before t.flow s.flow)) [
    | inl b ↦ rw (e, b) (All_put (λ u. flow_before t.flow u.flow ≡ true) s ts b order.0, order_put s ts order.1)
    | inr b ↦ (
        let first : flow_before s.flow t.flow ≡ true = flow_before_else t.flow s.flow e b in
        rw (e, b) (
          All-cons (λ u. flow_before s.flow u.flow ≡ true) t ts first
              (All-weaker (λ u. flow_before t.flow u.flow ≡ true) (λ u. flow_before s.flow u.flow ≡ true) (λ u q. flow_before_trans s.flow t.flow u.flow first q) ts order.0),
          order,
        ))
  ]
]

order_filter : (p : SlotState → Bool) (slots : List SlotState) → IsInOrder slots → IsInOrder (filter p slots)
order_filter p [] order = tt
order_filter p (t ∷ ts) order = elim (cases_Bool (p t)) [
  | inl e ↦ rw e (All-filter p (λ u. flow_before t.flow u.flow ≡ true) ts order.0, order_filter p ts order.1)
  | inr e ↦ rw e (order_filter p ts order.1)
]

length-put : (s : SlotState) (slots : List SlotState) → length (put s slots) ≤ length slots + 1
length-put s [] = omega arith
length-put s (t ∷ ts) = elim (cases_Bool (same_flow s.flow t.flow)) [
  | inl e ↦ rw e (omega arith)
  | inr e ↦ elim (cases_Bool (flow_before t.flow s.flow)) [
    | inl b ↦ rw (e, b) (omega (arith, length-put s ts))
    | inr b ↦ rw (e, b) (omega arith)
  ]
]

pub kept_sound : (slots : List SlotState) (f : Flow) (number : ℕ) → All IsSlot slots → All (IsPieceFor f number) (pieces_for (slot_of slots f) number)
kept_sound [] f number all = All-nil (IsPieceFor f number)
kept_sound (s ∷ slots) f number all = elim (cases_Bool (same_flow f s.flow)) [
  | inl e ↦ elim (cases_Bool (s.number == number)) [
    | inl n ↦ (
        let here : IsSlot s = All-head IsSlot s slots all in
        let same : f ≡ s.flow = same_flow-true f s.flow e in
        let number_is : s.number ≡ number = eqb-true s.number number n in
        rw (e, n) (All-weaker (IsPieceFor s.flow s.number) (IsPieceFor f number) (λ q h. record { data_kind = h.data_kind; flow = h.flow ∙ sym same; same_number = h.same_number ∙ number_is }) s.pieces here.pieces))
    | inr n ↦ rw (e, n) (All-nil (IsPieceFor f number))
  ]
  | inr e ↦ rw e (kept_sound slots f number (All-tail IsSlot s slots all))
]

-- what is held of a message has what each slot's pieces have
held_of : (P : List PacketFields → Type 0) (slots : List SlotState) (f : Flow) (number : ℕ) → P [] → All (λ s. P s.pieces) slots → P (pieces_for (slot_of slots f) number)
held_of P [] f number none all = none
held_of P (s ∷ slots) f number none all = elim (cases_Bool (same_flow f s.flow)) [
  | inl e ↦ elim (cases_Bool (s.number == number)) [
    | inl n ↦ rw (e, n) (All-head (λ (t : SlotState). P t.pieces) s slots all)
    | inr n ↦ rw (e, n) none
  ]
  | inr e ↦ rw e (held_of P slots f number none (All-tail (λ (t : SlotState). P t.pieces) s slots all))
]

pub kept_packets : (slots : List SlotState) (f : Flow) (number : ℕ) → All IsSlot slots → All IsPacket (pieces_for (slot_of slots f) number)
kept_packets slots f number all = held_of (All IsPacket) slots f number (All-nil IsPacket) (All-weaker IsSlot (λ s. All IsPacket s.pieces) (λ s h. h.packets) slots all)

kept_places : (slots : List SlotState) (f : Flow) (number : ℕ) → All IsSlot slots → PlacesRise (pieces_for (slot_of slots f) number)
kept_places slots f number all = held_of PlacesRise slots f number tt (All-weaker IsSlot (λ s. PlacesRise s.pieces) (λ s h. h.places) slots all)

-- a packet that is kept isn't old
new_from : (old whole room : Bool) → (if old then outcome.Old else (if whole then outcome.Whole else (if room then outcome.Kept else outcome.Full))) ≡ outcome.Kept → old ≡ false
new_from true whole room h = absurd (cc)
new_from false whole room h = refl

-- there is room where a packet is kept
room_from : (old whole room : Bool) → (if old then outcome.Old else (if whole then outcome.Whole else (if room then outcome.Kept else outcome.Full))) ≡ outcome.Kept → room ≡ true
room_from true whole room h = absurd (cc)
room_from false true room h = absurd (cc)
room_from false false true h = refl
room_from false false false h = absurd (cc)

pub kept_table : (slots : List SlotState) (p : PacketFields) → IsTable slots → IsPacket p → p.kind ≡ kind.Data → outcome_of slots p ≡ outcome.Kept → IsTable (kept slots p)
kept_table slots p h format piece kept_is =
    let s : SlotState = record { flow = flow_of p; number = p.number; pieces = gathered slots p } in
    let room : has_room slots (flow_of p) ≡ true = room_from (is_old (kept_for slots p) p) (is_whole_from 0 (gathered slots p)) (has_room slots (flow_of p)) kept_is in
    let at_most : length slots ≤ 8 = h.few in
    record {
      few = elim (cases_Bool (list_any (λ (t : SlotState). same_flow (flow_of p) t.flow) slots)) [
        | inl any ↦ (let same : length (put s slots) ≡ length slots = ap length (put_held s slots h.in_order any) ∙ length-set slots (position_or_len (λ (t : SlotState). same_flow s.flow t.flow) slots) s in omega arith)
        | inr none ↦ (let free : nat_lt (length slots) 8 ≡ true = rw none at room in let fewer : length slots < 8 = grind (arith, nat_tests, free) in omega (arith, length-put s slots))
      ];
      in_order = order_put s slots h.in_order;
      sound = All_put IsSlot s slots (record {
        some = omega (arith, length-with_piece p (kept_for slots p));
        pieces = All_with_piece (IsPieceFor (flow_of p) p.number) p (kept_for slots p) (record { data_kind = piece; flow = refl; same_number = refl }) (kept_sound slots (flow_of p) p.number h.sound);
        packets = All_with_piece IsPacket p (kept_for slots p) format (kept_packets slots (flow_of p) p.number h.sound);
        places = rise_with_piece p (kept_for slots p) (new_from (is_old (kept_for slots p) p) (is_whole_from 0 (gathered slots p)) (has_room slots (flow_of p)) kept_is) (kept_places slots (flow_of p) p.number h.sound);
      }) h.sound;
    }

length-filter-le : {X : Type 0} (p : X → Bool) (xs : List X) → length (filter p xs) ≤ length xs
length-filter-le p [] = omega arith
length-filter-le p (x ∷ xs) = elim (cases_Bool (p x)) [
  | inl e ↦ rw e (omega (arith, length-filter-le p xs))
  | inr e ↦ rw e (omega (arith, length-filter-le p xs))
]

pub without_table : (slots : List SlotState) (f : Flow) → IsTable slots → IsTable (without slots f)
without_table slots f h =
    let at_most : length slots ≤ 8 = h.few in
    record {
      few = omega (arith, length-filter-le (λ (s : SlotState). not (same_flow f s.flow)) slots);
      in_order = order_filter (λ (s : SlotState). not (same_flow f s.flow)) slots h.in_order;
      sound = All-filter (λ (s : SlotState). not (same_flow f s.flow)) IsSlot slots h.sound;
    }

-- pieces and a packet, joined
pub join_is : (p : PacketFields) (ps front back : List PacketFields) (n : ℕ) → n ≡ position_or_len (λ q. not (nat_lt q.place p.place)) ps → front ≡ take n ps → back ≡ drop n ps
    → (joined_pieces front ++ p.bits) ++ joined_pieces back ≡ joined_pieces (with_piece p ps)
join_is p ps front back n at e f =
    let split : with_piece p ps ≡ front ++ p ∷ back = with_piece_is p ps ∙ ap (λ (k : ℕ). insert ps k p) (sym at) ∙ cc in
    append_assoc (joined_pieces front) p.bits (joined_pieces back) ∙ sym (flat_map-append (λ (q : PacketFields). q.bits) front (p ∷ back)) ∙ ap joined_pieces (sym split)

-- ---- a packet that is kept

slot_with : Flow → ℕ → List PacketFields → SlotState
slot_with f n ps = record { flow = f; number = n; pieces = ps }

same_slot_with : {f g : Flow} {n m : ℕ} {ps qs : List PacketFields} → f ≡ g → n ≡ m → ps ≡ qs → slot_with f n ps ≡ slot_with g m qs
same_slot_with ef en eq = cc

same_slot : (f g : Flow) (n m : ℕ) (ps qs : List PacketFields) → f ≡ g → n ≡ m → ps ≡ qs
    → (let a : SlotState = record { flow = f; number = n; pieces = ps } in let b : SlotState = record { flow = g; number = m; pieces = qs } in a ≡ b)
unfolding slot_with
same_slot f g n m ps qs ef en eq = same_slot_with ef en eq

pub kept_at : (slots : List SlotState) (p : PacketFields) (at : ℕ) (old new : SlotState) → IsInOrder slots → position (λ s. same_flow (flow_of p) s.flow) slots ≡ Some at
    → old ≡ get_or slots at old → new ≡ record { flow = old.flow; number = p.number; pieces = with_piece p (pieces_for (Some old) p.number) }
    → set slots at new ≡ kept slots p
kept_at slots p at old new order place read is =
    let test : SlotState → Bool = λ s. same_flow (flow_of p) s.flow in
    let i : IsAt test slots at = position_some test slots at place in
    let passes : test old ≡ true = ap test read ∙ ap (λ (k : ℕ). test (get_or slots k old)) (sym i.first) ∙ passes_at_first test slots old (omega (arith, i.first, i.within)) in
    let flow : flow_of p ≡ old.flow = same_flow-true (flow_of p) old.flow passes in
    let found_is : slot_of slots (flow_of p) ≡ Some old = find_at test slots ∙ ap (λ (k : ℕ). slice_get slots k) i.first ∙ slice_get_read slots (length slots) at old refl i.within read in
    let s : SlotState = record { flow = flow_of p; number = p.number; pieces = gathered slots p } in
    let same : new ≡ s = is ∙ same_slot old.flow (flow_of p) p.number p.number (with_piece p (pieces_for (Some old) p.number)) (gathered slots p) (sym flow) refl
    (ap (λ (o : Option SlotState). with_piece p (pieces_for o p.number)) (sym found_is)) in
    ap (λ (t : SlotState). set slots at t) same ∙ ap (λ (k : ℕ). set slots k s) (sym i.first) ∙ sym (put_held s slots order i.any)

pub kept_new : (slots : List SlotState) (p : PacketFields) (at number : ℕ) (f : Flow) (pieces : List PacketFields) → position (λ s. same_flow (flow_of p) s.flow) slots ≡ None
    → f ≡ flow_of p → number ≡ p.number → pieces ≡ p ∷ [] → at ≡ position_or_len (λ s. not (flow_before s.flow f)) slots
    → insert slots at (record { flow = f; number = number; pieces = pieces }) ≡ kept slots p
kept_new slots p at number f pieces none flow numbers one place =
    let test : SlotState → Bool = λ s. same_flow (flow_of p) s.flow in
    let unheld : list_any test slots ≡ false = position_none test slots none in
    let no_slot : slot_of slots (flow_of p) ≡ None = find_none test slots unheld in
    let s : SlotState = record { flow = flow_of p; number = p.number; pieces = gathered slots p } in
    let t : SlotState = record { flow = f; number = number; pieces = pieces } in
    let same : t ≡ s = same_slot f (flow_of p) number p.number pieces (gathered slots p) flow numbers
    (one ∙ ap (λ (o : Option SlotState). with_piece p (pieces_for o p.number)) (sym no_slot)) in
    let at_is : at ≡ position_or_len (λ (u : SlotState). not (flow_before u.flow s.flow)) slots = place ∙ ap (λ (g : Flow). position_or_len (λ (u : SlotState). not (flow_before u.flow g)) slots) flow in
    ap (λ (u : SlotState). insert slots at u) same ∙ ap (λ (k : ℕ). insert slots k s) at_is ∙ sym (put_new s slots unheld)
