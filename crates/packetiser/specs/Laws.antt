-- The laws of src/ that are longer than a line: each is a record, and its fields are the clauses.
use Rattle.std.specs.Prelude.{All, Bool, IsPermutation, List, None, Some, [], false, if◌then◌else◌, length, true, ℕ}
use Rattle.std.specs.Prelude.{◌++◌, ◌<◌, ◌∷◌, ◌≡◌}
use Rattle.bit_messages.specs.Body.{has_mark, strip_fault}
use Rattle.bit_messages.specs.declared.fault.BitFault.TheVariants as bit_fault
use Rattle.interface.specs.Flow.{same_flow}
use Rattle.interface.specs.declared.address.Flow.{Flow}
use Rattle.packetiser.specs.PacketFields.{IsPacket, PacketFields, flow_of}
use Rattle.packetiser.specs.Pieces.{IsBodySize, piece_count, piece_packet}
use Rattle.packetiser.specs.Rejoining.{AreAmong, Event, Holds, IsAmongOthers, IsGathered, IsRejoined, after_events}
use Rattle.packetiser.specs.Rejoining.{all_came, answer_to, places_in, slots_after}
use Rattle.packetiser.specs.Slots.{IsTable, SlotState, added, answer_of, gathered, has_room, in_some_order}
use Rattle.packetiser.specs.Slots.{joined_pieces, outcome_of, packets_in, slot_of, without}
use Rattle.packetiser.specs.declared.packet.PacketKind.TheVariants as kind
use Rattle.packetiser.specs.declared.reassembly.Added.TheVariants as answer
use Rattle.packetiser.specs.declared.reassembly.Outcome.TheVariants as outcome

-- The pieces of one message rejoin to its body, in whatever order and however often they come.
pub record Rejoining : Type 0 where
  -- where nothing of the message is held and there is room for it, a piece that came already is Old, the last missing
  -- one is Whole with the body, and any other is Kept
  pub any_order :
      (flow : Flow) (number : ℕ) (w : List Bool) (slots : List SlotState) (ks : List ℕ) (k : ℕ) →
      Holds flow number w [] slots → All (λ j. j < piece_count w) (k ∷ ks) → all_came w ks ≡ false →
      answer_of (slots_after flow number w slots ks) (piece_packet flow number w k) ≡ answer_to w ks k
  -- the same one piece at a time: what the piece is answered, and what is held then
  pub answered :
      (flow : Flow) (number : ℕ) (w : List Bool) (slots : List SlotState) (ks : List ℕ) (k : ℕ) →
      Holds flow number w ks slots → k < piece_count w →
      answer_of slots (piece_packet flow number w k) ≡ answer_to w ks k
  pub held :
      (flow : Flow) (number : ℕ) (w : List Bool) (slots : List SlotState) (ks : List ℕ) (k : ℕ) →
      Holds flow number w ks slots → k < piece_count w → all_came w (k ∷ ks) ≡ false →
      Holds flow number w (k ∷ ks) (added slots (piece_packet flow number w k))
  -- a flow that has a slot has room
  pub room : (slots : List SlotState) (f : Flow) (s : SlotState) → slot_of slots f ≡ Some s → has_room slots f ≡ true
  -- once a piece of the message is held, packets of other flows and emptied slots of other flows change nothing of it
  pub undisturbed :
      (flow : Flow) (number : ℕ) (w : List Bool) (slots : List SlotState) (ks : List ℕ) (j : ℕ) (p : PacketFields) →
      Holds flow number w (j ∷ ks) slots → j < piece_count w → same_flow flow (flow_of p) ≡ false →
      Holds flow number w (j ∷ ks) (added slots p)
  pub still_there :
      (flow : Flow) (number : ℕ) (w : List Bool) (slots : List SlotState) (ks : List ℕ) (j : ℕ) (g : Flow) →
      Holds flow number w (j ∷ ks) slots → j < piece_count w → same_flow flow g ≡ false →
      Holds flow number w (j ∷ ks) (without slots g)
  -- so the message is rejoined whatever comes of other flows in between
  pub interleaved :
      (flow : Flow) (number : ℕ) (w : List Bool) (slots : List SlotState) (ks : List ℕ) (j k : ℕ)
      (events : List Event) →
      Holds flow number w (j ∷ ks) slots → j < piece_count w → k < piece_count w → All (IsAmongOthers flow w) events →
      all_came w (places_in events (j ∷ ks)) ≡ false →
      answer_of (after_events flow number w slots events) (piece_packet flow number w k)
      ≡ answer_to w (places_in events (j ∷ ks)) k
  -- a packet and an emptied slot touch their own flow's slot only
  pub other_packets :
      (slots : List SlotState) (p : PacketFields) (f : Flow) → same_flow f (flow_of p) ≡ false →
      slot_of (added slots p) f ≡ slot_of slots f
  pub other_discards :
      (slots : List SlotState) (f g : Flow) → same_flow f g ≡ false → slot_of (without slots g) f ≡ slot_of slots f
  pub discarded : (slots : List SlotState) (f : Flow) → slot_of (without slots f) f ≡ None

-- What slots hold came in packets, and nothing is made of pieces of two messages.
pub record Holding : Type 0 where
  -- what is held was held, or is the packet that came
  pub added_only :
      (slots : List SlotState) (p : PacketFields) → AreAmong (packets_in (added slots p)) (packets_in slots ++ p ∷ [])
  pub discarded_only : (slots : List SlotState) (f : Flow) → AreAmong (packets_in (without slots f)) (packets_in slots)
  -- a whole body is joined of pieces of one message
  pub whole :
      (slots : List SlotState) (p : PacketFields) → IsTable slots → p.kind ≡ kind.Data →
      outcome_of slots p ≡ outcome.Whole → IsGathered slots p (gathered slots p) ×
      (answer_of slots p ≡ answer.Whole (joined_pieces (gathered slots p)))
  -- the same from the answer, and such a body has 16 to 8064 bits in units of sixteen
  pub body :
      (slots : List SlotState) (p : PacketFields) (w : List Bool) → IsTable slots → IsPacket p → p.kind ≡ kind.Data →
      answer_of slots p ≡ answer.Whole w → IsRejoined slots p w
  -- a list of bits of that size is stripped to a text unless it has no mark
  pub stripped :
      (w : List Bool) → IsBodySize (length w) → strip_fault w ≡ (if has_mark w then None else Some bit_fault.NoMark)
  -- there stay at most eight slots, one for each flow, with pieces of one message each
  pub table :
      (slots : List SlotState) (p : PacketFields) → IsTable slots → IsPacket p → p.kind ≡ kind.Data →
      IsTable (added slots p)
  pub emptied : (slots : List SlotState) (f : Flow) → IsTable slots → IsTable (without slots f)
  -- the order in which slots are named has each of them once
  pub named : (slots : List SlotState) → IsPermutation (in_some_order slots) slots

-- What is no gathered message: each list of pieces has one thing wrong.
pub record NotGathered : Type 0 where
  -- a piece of the message with another number, though it is held
  pub another_number :
      (p : PacketFields) →
      IsGathered
      (record { flow = flow_of p; number = 1; pieces = record p { number = 1; place = 0; last = true } ∷ [] } ∷ [])
      (record p { number = 0 }) (record p { number = 1; place = 0; last = true } ∷ []) →
      ⊥
  -- other bits than those that came
  pub other_bits : (p : PacketFields) → IsGathered [] p (record p { bits = true ∷ p.bits } ∷ []) → ⊥
  -- the first piece only, and the last one only
  pub last_missing :
      (p : PacketFields) →
      IsGathered [] (record p { place = 0; last = false }) (record p { place = 0; last = false } ∷ []) → ⊥
  pub first_missing :
      (p : PacketFields) →
      IsGathered [] (record p { place = 1; last = true }) (record p { place = 1; last = true } ∷ []) → ⊥
