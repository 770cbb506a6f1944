-- Messages in reassembly (Heart et al., SJCC 1970: the destination IMP collects a message's packets).
--
-- The slots are a list in order of their flows. `pieces_at` goes by that order; `held` names messages in an unspecified order.
use Rattle.std.specs.Prelude.{◌≡◌, ℕ, ◌+◌, ◌≤◌, ◌<◌, Bool, true, false, not, List, [], ◌∷◌, length, Option, Some, None, nat_lt, ◌==◌, ◌||◌, ◌&&◌, if◌then◌else◌, filter, All}
use Rattle.std.specs.List.{find, list_any, flat_map}
use Rattle.interface.specs.Flow.{same_flow, flow_before}
use Rattle.interface.specs.declared.address.Flow.{Flow}
use Rattle.packetiser.specs.Limits.{slot_count}
use Rattle.packetiser.specs.PacketFields.{PacketFields, IsPacket, flow_of}
use Rattle.packetiser.specs.declared.packet.PacketKind.TheVariants as kind
use Rattle.packetiser.specs.declared.reassembly.Outcome.{Outcome}
use Rattle.packetiser.specs.declared.reassembly.Outcome.TheVariants as outcome
use Rattle.packetiser.specs.declared.reassembly.Added.{Added}
use Rattle.packetiser.specs.declared.reassembly.Added.TheVariants as answer

-- ---- the state

-- a slot: the flow and number of a message, and those of its pieces that came, in order of their places
pub record SlotState : Type 0 where
  pub flow : Flow
  pub number : ℕ
  pub pieces : List PacketFields

-- a piece of the message of this flow and number
pub record IsPieceFor (f : Flow) (number : ℕ) (p : PacketFields) : Type 0 where
  pub data_kind : p.kind ≡ kind.Data
  pub flow : flow_of p ≡ f
  pub same_number : p.number ≡ number

-- the places of pieces rise, so each place is there at most once
abbrev pub PlacesRise : List PacketFields → Type 0
PlacesRise [] = Unit {0}
PlacesRise (q ∷ qs) = All (λ r. q.place < r.place) qs × PlacesRise qs

-- a slot holds pieces of its message, at least one; each is a packet by the format, and each has a place of its own
pub record IsSlot (s : SlotState) : Type 0 where
  pub some : 0 < length s.pieces
  pub pieces : All (IsPieceFor s.flow s.number) s.pieces
  pub packets : All IsPacket s.pieces
  pub places : PlacesRise s.pieces

-- the slots are in order of their flows, so that there is at most one for each
abbrev pub IsInOrder : List SlotState → Type 0
IsInOrder [] = Unit {0}
IsInOrder (s ∷ slots) = All (λ t. flow_before s.flow t.flow ≡ true) slots × IsInOrder slots

-- the slots of an IMP: at most eight, and at most one for each flow
pub record IsTable (slots : List SlotState) : Type 0 where
  pub few : length slots ≤ slot_count
  pub in_order : IsInOrder slots
  pub sound : All IsSlot slots

-- ---- reading the slots

-- the slot of a flow
abbrev pub slot_of : List SlotState → Flow → Option SlotState
slot_of slots f = find (λ s. same_flow f s.flow) slots

-- what a slot holds of the message with this number
abbrev pub pieces_for : Option SlotState → ℕ → List PacketFields
pieces_for None number = []
pieces_for (Some s) number = if s.number == number then s.pieces else []

-- the pieces of a packet's message that are held
abbrev pub kept_for : List SlotState → PacketFields → List PacketFields
kept_for slots p = pieces_for (slot_of slots (flow_of p)) p.number

-- all packets in the slots
abbrev pub packets_in : List SlotState → List PacketFields
packets_in slots = flat_map (λ s. s.pieces) slots

-- ---- one packet

-- a packet contradicts a piece that is held, or repeats it: the two have the same place, or one of them is the last of its
-- message and lies below the other
abbrev pub rules_out : PacketFields → PacketFields → Bool
rules_out p q = q.place == p.place || q.last && nat_lt q.place p.place || p.last && nat_lt p.place q.place

-- whether a packet contradicts or repeats one of the pieces
abbrev pub is_old : List PacketFields → PacketFields → Bool
is_old pieces p = list_any (rules_out p) pieces

-- the pieces with one more, in order of their places
abbrev pub with_piece : PacketFields → List PacketFields → List PacketFields
with_piece p [] = p ∷ []
with_piece p (q ∷ qs) = if nat_lt q.place p.place then q ∷ with_piece p qs else p ∷ q ∷ qs

-- the places of the pieces go up by one from this place on; the final piece is marked as the last, and no other is
abbrev pub is_whole_from : ℕ → List PacketFields → Bool
is_whole_from place [] = false
is_whole_from place (q ∷ qs) = q.place == place && (if q.last then length qs == 0 else is_whole_from (place + 1) qs)

-- the bits of pieces, one after another
abbrev pub joined_pieces : List PacketFields → List Bool
joined_pieces pieces = flat_map (λ q. q.bits) pieces

-- the pieces of a packet's message, the packet among them
abbrev pub gathered : List SlotState → PacketFields → List PacketFields
gathered slots p = with_piece p (kept_for slots p)

-- ---- the calls

-- the slots without a flow's
abbrev pub without : List SlotState → Flow → List SlotState
without slots f = filter (λ s. not (same_flow f s.flow)) slots

-- the slots with this one in place of its flow's
abbrev pub put : SlotState → List SlotState → List SlotState
put s [] = s ∷ []
put s (t ∷ ts) =
    if same_flow s.flow t.flow then s ∷ ts
    else (if flow_before t.flow s.flow then t ∷ put s ts else s ∷ t ∷ ts)

-- a packet's flow has a slot, or one is free
abbrev pub has_room : List SlotState → Flow → Bool
has_room slots f = list_any (λ s. same_flow f s.flow) slots || nat_lt (length slots) slot_count

-- what becomes of a packet; pieces of another number on its flow count as not held
abbrev pub outcome_of : List SlotState → PacketFields → Outcome
outcome_of slots p =
    if is_old (kept_for slots p) p then outcome.Old
    else (if is_whole_from 0 (gathered slots p) then outcome.Whole
    else (if has_room slots (flow_of p) then outcome.Kept
    else outcome.Full))

abbrev pub answer_by : Outcome → List SlotState → PacketFields → Added
answer_by outcome.Kept slots p = answer.Kept
answer_by outcome.Whole slots p = answer.Whole (joined_pieces (gathered slots p))
answer_by outcome.Old slots p = answer.Old
answer_by outcome.Full slots p = answer.Full

-- what a packet is answered
abbrev pub answer_of : List SlotState → PacketFields → Added
answer_of slots p = answer_by (outcome_of slots p) slots p

-- the slots with a packet that is kept
abbrev pub kept : List SlotState → PacketFields → List SlotState
kept slots p = put (record { flow = flow_of p; number = p.number; pieces = gathered slots p }) slots

abbrev pub added_by : Outcome → List SlotState → PacketFields → List SlotState
added_by outcome.Kept slots p = kept slots p
added_by outcome.Whole slots p = without slots (flow_of p)
added_by outcome.Old slots p = slots
added_by outcome.Full slots p = slots

-- the slots after a packet
abbrev pub added : List SlotState → PacketFields → List SlotState
added slots p = added_by (outcome_of slots p) slots p

-- whether a packet with this outcome takes memory, where these pieces of its message are held: a piece that is kept does, and
-- so does joining several pieces; the one piece of a message is its body already
abbrev pub grows_by : Outcome → List PacketFields → Bool
grows_by outcome.Kept held = true
grows_by outcome.Whole held = nat_lt 0 (length held)
grows_by outcome.Old held = false
grows_by outcome.Full held = false

-- whether taking a packet takes memory
abbrev pub grows : List SlotState → PacketFields → Bool
grows slots p = grows_by (outcome_of slots p) (kept_for slots p)

-- an unspecified order of the slots: callers rely only on each slot being in it once
unfoldable pub in_some_order : List SlotState → List SlotState
in_some_order slots = slots
