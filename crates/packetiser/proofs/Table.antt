-- The table of slots: a slab, and the keys of its slots in the order of their flows.
use Rattle.std.proofs.Common.{◌≡◌, ◌≢◌, ℕ, suc, ◌+◌, ◌<◌, ◌≤◌, Bool, true, false, not, List, [], ◌∷◌, length, get_or, set, refl, ap, sym, ◌∙◌, subst, arith, All, Option, Some, None, IsSome, is_some, insert, remove, filter, nat_lt, inl, inr, if◌then◌else◌}
use Rattle.std.specs.List.{position, position_or_len, slice_get, list_any}
use Rattle.std.proofs.lemmas.Bool.{cases_Bool}
use Rattle.std.proofs.lemmas.Bool.Decides.{nat_tests}
use Rattle.std.proofs.lemmas.List.Edits.{length-insert, length-remove}
use Rattle.std.proofs.lemmas.List.Elements.{All-head, All-tail}
use Rattle.std.proofs.lemmas.List.Folds.{find_at}
use Rattle.std.proofs.lemmas.Option.{slice_get_past, get_or_from_slice_get}
use Rattle.interface.specs.Flow.{same_flow, flow_before}
use Rattle.interface.proofs.lemmas.{flow_before_never, same_flow-true}
use Rattle.interface.specs.declared.address.Flow.{Flow}
use Rattle.slab.specs.Slab.{Slab, get, ContainsKey, slab_len, Updates, with_value}
use Rattle.slab.proofs.SlabLemmas.{Updates-with_value}
use Rattle.packetiser.specs.Inside.{slots_at, is_there_and, IsKept}
use Rattle.packetiser.specs.PacketFields.{PacketFields, flow_of}
use Rattle.packetiser.specs.Slots.{SlotState, IsInOrder, slot_of, pieces_for, with_piece, without, has_room, kept}
use Rattle.packetiser.proofs.Keys.{length-there, get-there, first-there, insert-there, remove-there, same-there, set-there, All-insert, All-remove, apart-insert, apart-remove, removed-apart}
use Rattle.packetiser.proofs.Slots.{any_within, position_none, position_some, find_none, IsAt, kept_at}

-- ---- reading

pub length_of : (slots : Slab SlotState) (keys : List ℕ) (room : ℕ) → IsKept slots keys room → length (slots_at slots keys) ≡ length keys
length_of slots keys room h = length-there (get slots) keys h.there

-- the table has as many slots as keys
pub size_is : (slots : Slab SlotState) (keys : List ℕ) (room : ℕ) (now : List SlotState) → IsKept slots keys room → slots_at slots keys ≡ now → length now ≡ length keys
size_is slots keys room now h view = ap length (sym view) ∙ length_of slots keys room h

pub slot_read : (slots : Slab SlotState) (keys : List ℕ) (room at key : ℕ) → IsKept slots keys room → at < length keys → key ≡ get_or keys at key → get slots key ≡ slice_get (slots_at slots keys) at
slot_read slots keys room at key h within is = ap (get slots) is ∙ get-there (get slots) keys at key h.there within

pub slot_past : (slots : Slab SlotState) (keys : List ℕ) (room at : ℕ) → IsKept slots keys room → length keys ≤ at → slice_get (slots_at slots keys) at ≡ None
slot_past slots keys room at h past = slice_get_past (slots_at slots keys) at (omega (arith, length_of slots keys room h, past))

-- a key's slot passes where the slot does
pub first_is : (test : SlotState → Bool) (slots : Slab SlotState) (keys : List ℕ) (room : ℕ) → IsKept slots keys room
    → position_or_len (λ key. is_there_and test (get slots key)) keys ≡ position_or_len test (slots_at slots keys)
first_is test slots keys room h = first-there (get slots) test (λ key. is_there_and test (get slots key)) (λ key s found. ap (is_there_and test) found) keys h.there

pub first_not_is : (test : SlotState → Bool) (slots : Slab SlotState) (keys : List ℕ) (room : ℕ) → IsKept slots keys room
    → position_or_len (λ key. not (is_there_and test (get slots key))) keys ≡ position_or_len (λ s. not (test s)) (slots_at slots keys)
first_not_is test slots keys room h =
    first-there (get slots) (λ s. not (test s)) (λ key. not (is_there_and test (get slots key))) (λ key s found. ap (λ (o : Option SlotState). not (is_there_and test o)) found) keys h.there

first_below : ℕ → ℕ → Option ℕ
first_below n size = if nat_lt n size then Some n else None

same_first : (n m a b : ℕ) → n ≡ m → a ≡ b → first_below n a ≡ first_below m b
same_first n m a b en ea = cc

pub place_is : (test : SlotState → Bool) (slots : Slab SlotState) (keys : List ℕ) (room : ℕ) → IsKept slots keys room
    → position (λ key. is_there_and test (get slots key)) keys ≡ position test (slots_at slots keys)
unfolding first_below
place_is test slots keys room h =
    same_first (position_or_len (λ (key : ℕ). is_there_and test (get slots key)) keys) (position_or_len test (slots_at slots keys)) (length keys) (length (slots_at slots keys))
    (first_is test slots keys room h) (sym (length_of slots keys room h))

-- ---- a slot comes

unlike_vacant : (slots : Slab SlotState) (keys : List ℕ) (key : ℕ) → All (ContainsKey slots) keys → get slots key ≡ None → All (λ other. other ≢ key) keys
unlike_vacant slots keys key there vacant k d within same =
    let found : is_some (get slots (get_or keys k d)) ≡ true = there k d within in
    let none : is_some (get slots (get_or keys k d)) ≡ false = ap (λ (x : ℕ). is_some (get slots x)) same ∙ ap is_some vacant in
    absurd (cc)

others_same : (old new : Slab SlotState) (keys : List ℕ) (key : ℕ) (o : Option SlotState) → Updates old new key o → All (λ other. other ≢ key) keys → All (λ other. get new other ≡ get old other) keys
others_same old new keys key o updates unlike k d within = updates.others (get_or keys k d) (unlike k d within)

others_there : (old new : Slab SlotState) (keys : List ℕ) (key : ℕ) (o : Option SlotState) → Updates old new key o → All (λ other. other ≢ key) keys → All (ContainsKey old) keys → All (ContainsKey new) keys
others_there old new keys key o updates unlike there k d within = subst IsSome (sym (updates.others (get_or keys k d) (unlike k d within))) (there k d within)

pub slots_insert : (old new : Slab SlotState) (keys : List ℕ) (room at key : ℕ) (s : SlotState) → IsKept old keys room → at ≤ length keys → get old key ≡ None → Updates old new key (Some s)
    → slots_at new (insert keys at key) ≡ insert (slots_at old keys) at s
slots_insert old new keys room at key s h within vacant updates =
    let unlike : All (λ other. other ≢ key) keys = unlike_vacant old keys key h.there vacant in
    insert-there (get new) keys at key s (others_there old new keys key (Some s) updates unlike h.there) within updates.changed
    ∙ ap (λ (slots : List SlotState). insert slots at s) (same-there (get old) (get new) keys (others_same old new keys key (Some s) updates unlike))

pub kept_insert : (old new : Slab SlotState) (keys : List ℕ) (room room' at key : ℕ) (s : SlotState) → IsKept old keys room → at ≤ length keys → get old key ≡ None → Updates old new key (Some s)
    → slab_len new ≡ slab_len old + 1 → new.capacity ≡ old.capacity → room ≤ room' → IsKept new (insert keys at key) room'
kept_insert old new keys room room' at key s h within vacant updates longer as_large more =
    let unlike : All (λ other. other ≢ key) keys = unlike_vacant old keys key h.there vacant in
    record {
      there = All-insert (ContainsKey new) keys at key (others_there old new keys key (Some s) updates unlike h.there) (ap is_some updates.changed);
      apart = apart-insert keys at key h.apart unlike;
      no_other = longer ∙ ap (λ (n : ℕ). n + 1) h.no_other ∙ sym (length-insert keys at key within);
      slots_reserved = omega (arith, h.slots_reserved, as_large);
      keys_reserved = omega (arith, h.keys_reserved, more);
    }

-- ---- a slot goes

pub slots_remove : (old new : Slab SlotState) (keys : List ℕ) (room at key : ℕ) → IsKept old keys room → at < length keys → key ≡ get_or keys at key → Updates old new key None
    → slots_at new (remove keys at) ≡ remove (slots_at old keys) at
slots_remove old new keys room at key h within is updates =
    let unlike : All (λ other. other ≢ key) (remove keys at) = subst (λ (x : ℕ). All (λ other. other ≢ x) (remove keys at)) (sym is) (removed-apart keys at key h.apart within) in
    same-there (get old) (get new) (remove keys at) (others_same old new (remove keys at) key None updates unlike) ∙ remove-there (get old) keys at h.there within

pub kept_remove : (old new : Slab SlotState) (keys : List ℕ) (room at key : ℕ) → IsKept old keys room → at < length keys → key ≡ get_or keys at key → Updates old new key None
    → slab_len new + 1 ≡ slab_len old → new.capacity ≡ old.capacity → IsKept new (remove keys at) room
kept_remove old new keys room at key h within is updates shorter as_large =
    let unlike : All (λ other. other ≢ key) (remove keys at) = subst (λ (x : ℕ). All (λ other. other ≢ x) (remove keys at)) (sym is) (removed-apart keys at key h.apart within) in
    record {
      there = others_there old new (remove keys at) key None updates unlike (All-remove (ContainsKey old) keys at h.there);
      apart = apart-remove keys at h.apart;
      no_other = omega (arith, shorter, h.no_other, length-remove keys at within);
      slots_reserved = omega (arith, h.slots_reserved, as_large);
      keys_reserved = h.keys_reserved;
    }

-- ---- a slot changes

pub kept_fill : (slots : Slab SlotState) (keys : List ℕ) (room at key : ℕ) (p : PacketFields) (old new : SlotState) (now : List SlotState) → IsKept slots keys room → slots_at slots keys ≡ now → IsInOrder now
    → position (λ s. same_flow (flow_of p) s.flow) now ≡ Some at → at < length keys → key ≡ get_or keys at key → get slots key ≡ Some old
    → new ≡ record { flow = old.flow; number = p.number; pieces = with_piece p (pieces_for (Some old) p.number) }
    → slots_at (with_value slots key new) keys ≡ kept now p
kept_fill slots keys room at key p old new now h view order place within is found made =
    let updates : Updates slots (with_value slots key new) key (Some new) = Updates-with_value slots key new (ap is_some found) in
    let read : slice_get now at ≡ Some old = ap (λ (ss : List SlotState). slice_get ss at) (sym view) ∙ sym (slot_read slots keys room at key h within is) ∙ found in
    set-there (get slots) (get (with_value slots key new)) keys at key key new h.there h.apart within (sym is) updates.changed updates.others
    ∙ ap (λ (ss : List SlotState). set ss at new) view
    ∙ kept_at now p at old new order place (sym (get_or_from_slice_get now at old old read)) made

-- ---- by flow

pub slot_at_place : (slots : List SlotState) (f : Flow) (at : ℕ) → position (λ s. same_flow f s.flow) slots ≡ Some at → slice_get slots at ≡ slot_of slots f
slot_at_place slots f at place =
    let i : IsAt (λ (s : SlotState). same_flow f s.flow) slots at = position_some (λ (s : SlotState). same_flow f s.flow) slots at place in
    ap (slice_get slots) (sym i.first) ∙ sym (find_at (λ (s : SlotState). same_flow f s.flow) slots)

pub no_slot : (slots : List SlotState) (f : Flow) → position (λ s. same_flow f s.flow) slots ≡ None → slot_of slots f ≡ None
no_slot slots f none = find_none (λ (s : SlotState). same_flow f s.flow) slots (position_none (λ (s : SlotState). same_flow f s.flow) slots none)

any_is_placed : (test : SlotState → Bool) (slots : List SlotState) → is_some (position test slots) ≡ list_any test slots
any_is_placed test slots = elim (cases_Bool (nat_lt (position_or_len test slots) (length slots))) [
  | inl e ↦ rw e (sym e ∙ sym (any_within test slots))
  | inr e ↦ rw e (sym e ∙ sym (any_within test slots))
]

pub room_then : (slots : List SlotState) (f : Flow) (b : Bool) → b ≡ is_some (position (λ s. same_flow f s.flow) slots) → b ≡ true → b ≡ has_room slots f
room_then slots f b placed is = let any : list_any (λ (s : SlotState). same_flow f s.flow) slots ≡ true = sym (any_is_placed (λ (s : SlotState). same_flow f s.flow) slots) ∙ sym placed ∙ is in rw any is

pub room_else : (slots : List SlotState) (f : Flow) (b : Bool) (n : ℕ) → b ≡ is_some (position (λ s. same_flow f s.flow) slots) → b ≡ false → n ≡ length slots → nat_lt n 8 ≡ has_room slots f
room_else slots f b n placed is size = let none : list_any (λ (s : SlotState). same_flow f s.flow) slots ≡ false = sym (any_is_placed (λ (s : SlotState). same_flow f s.flow) slots) ∙ sym placed ∙ is in rw (none, size) refl

pub room_free : (slots : List SlotState) (f : Flow) → position (λ s. same_flow f s.flow) slots ≡ None → has_room slots f ≡ true → length slots < 8
room_free slots f none room =
    let unheld : list_any (λ (s : SlotState). same_flow f s.flow) slots ≡ false = position_none (λ (s : SlotState). same_flow f s.flow) slots none in
    let free : nat_lt (length slots) 8 ≡ true = rw unheld at room in
    grind (arith, nat_tests, free)

none_of_later : (s : SlotState) (slots : List SlotState) → All (λ t. flow_before s.flow t.flow ≡ true) slots → (f : Flow) → f ≡ s.flow → filter (λ t. not (same_flow f t.flow)) slots ≡ slots
none_of_later s [] later f is = refl
none_of_later s (t ∷ ts) later f is = elim (cases_Bool (same_flow f t.flow)) [
  | inl e ↦ (
      let same : s.flow ≡ t.flow = sym is ∙ same_flow-true f t.flow e in
      let before : flow_before s.flow t.flow ≡ true = All-head (λ (u : SlotState). flow_before s.flow u.flow ≡ true) t ts later in
      let itself : flow_before t.flow t.flow ≡ true = subst (λ (g : Flow). flow_before g t.flow ≡ true) same before in
      let never : flow_before t.flow t.flow ≡ false = flow_before_never t.flow in
      absurd (cc))
  | inr e ↦ rw e (ap (λ (us : List SlotState). t ∷ us) (none_of_later s ts (All-tail (λ (u : SlotState). flow_before s.flow u.flow ≡ true) t ts later) f is))
]

remove_later : {X : Type 0} (x : X) (xs : List X) (n : ℕ) → remove (x ∷ xs) (1 + n) ≡ x ∷ remove xs n
remove_later x xs n = let more : 1 + n ≡ suc n = omega arith in rw more refl

pub without_at : (slots : List SlotState) (f : Flow) → IsInOrder slots → list_any (λ s. same_flow f s.flow) slots ≡ true → remove slots (position_or_len (λ s. same_flow f s.flow) slots) ≡ without slots f
without_at [] f order any = absurd (cc)
without_at (s ∷ slots) f order any = elim (cases_Bool (same_flow f s.flow)) [
  | inl e ↦ rw e (sym (none_of_later s slots order.0 f (same_flow-true f s.flow e)))
  | inr e ↦ rw e (
      remove_later s slots (position_or_len (λ (t : SlotState). same_flow f t.flow) slots)
      ∙ ap (λ (us : List SlotState). s ∷ us) (without_at slots f order.1 (rw e at any)))
]

-- the flow's slot is taken out
pub without_placed : (slots : List SlotState) (f : Flow) (at : ℕ) → IsInOrder slots → position (λ s. same_flow f s.flow) slots ≡ Some at → remove slots at ≡ without slots f
without_placed slots f at order place =
    let i : IsAt (λ (s : SlotState). same_flow f s.flow) slots at = position_some (λ (s : SlotState). same_flow f s.flow) slots at place in
    ap (λ (n : ℕ). remove slots n) (sym i.first) ∙ without_at slots f order i.any

pub placed_within : (slots : List SlotState) (f : Flow) (at : ℕ) → position (λ s. same_flow f s.flow) slots ≡ Some at → at < length slots
placed_within slots f at place =
    let i : IsAt (λ (s : SlotState). same_flow f s.flow) slots at = position_some (λ (s : SlotState). same_flow f s.flow) slots at place in
    i.within
