-- What reassembly promises: words for the laws over its calls.
use Rattle.std.specs.Prelude.{◌≡◌, ℕ, ◌<◌, Bool, true, false, List, [], ◌∷◌, ◌++◌, length, map, filter, All, Contains, ◌==◌, if◌then◌else◌}
use Rattle.std.specs.List.{list_any, list_all}
use Rattle.interface.specs.Flow.{same_flow}
use Rattle.interface.specs.declared.address.Flow.{Flow}
use Rattle.packetiser.specs.PacketFields.{PacketFields, flow_of}
use Rattle.packetiser.specs.Pieces.{IsBodySize, piece_count, piece_packet, places}
use Rattle.packetiser.specs.Slots.{SlotState, IsPieceFor, slot_of, pieces_for, has_room, is_whole_from, gathered, joined_pieces, added, without, packets_in}
use Rattle.packetiser.specs.declared.reassembly.Added.{Added}
use Rattle.packetiser.specs.declared.reassembly.Added.TheVariants as answer

-- each of these packets is one of those
abbrev pub AreAmong : List PacketFields → List PacketFields → Type 0
AreAmong ps qs = All (Contains qs) ps

-- these are the pieces of a packet's message, the packet or what was held, one for each place up to the last one's
pub record IsGathered (slots : List SlotState) (p : PacketFields) (ps : List PacketFields) : Type 0 where
  pub of_message : All (IsPieceFor (flow_of p) p.number) ps
  pub among : AreAmong ps (packets_in slots ++ p ∷ [])
  pub in_places : map (λ q. q.place) ps ≡ places (length ps)
  pub whole : is_whole_from 0 ps ≡ true

-- a packet makes its message whole: the body is its pieces, one after another, and has a body's size
pub record IsRejoined (slots : List SlotState) (p : PacketFields) (w : List Bool) : Type 0 where
  pub one_message : IsGathered slots p (gathered slots p)
  pub bits : w ≡ joined_pieces (gathered slots p)
  pub size : IsBodySize (length w)

-- an answer that gives a body gives one of a body's size
abbrev pub HasBodySize : Added → Type 0
HasBodySize answer.Kept = Unit {0}
HasBodySize (answer.Whole w) = IsBodySize (length w)
HasBodySize answer.Old = Unit {0}
HasBodySize answer.Full = Unit {0}

-- ---- the pieces of one message

-- whether the piece at a place came
abbrev pub came : List ℕ → ℕ → Bool
came ks place = list_any (λ k. k == place) ks

-- whether all pieces of a body came
abbrev pub all_came : List Bool → List ℕ → Bool
all_came w ks = list_all (came ks) (places (piece_count w))

-- the pieces of a body that came, in order of their places
abbrev pub pieces_of : Flow → ℕ → List Bool → List ℕ → List PacketFields
pieces_of flow number w ks = map (piece_packet flow number w) (filter (came ks) (places (piece_count w)))

-- of the message with this body the pieces at these places are held, and no others, and a slot is there for it
pub record Holds (flow : Flow) (number : ℕ) (w : List Bool) (ks : List ℕ) (slots : List SlotState) : Type 0 where
  pub pieces : pieces_for (slot_of slots flow) number ≡ pieces_of flow number w ks
  pub room : has_room slots flow ≡ true

-- what the piece at a place is answered after the pieces at these places
abbrev pub answer_to : List Bool → List ℕ → ℕ → Added
answer_to w ks place =
    if came ks place then answer.Old
    else (if all_came w (place ∷ ks) then answer.Whole w
    else answer.Kept)

-- the slots after the pieces at these places, the newest first
abbrev pub slots_after : Flow → ℕ → List Bool → List SlotState → List ℕ → List SlotState
slots_after flow number w slots [] = slots
slots_after flow number w slots (k ∷ ks) = added (slots_after flow number w slots ks) (piece_packet flow number w k)

-- ---- a message among others

-- what can come while a message's pieces are held: a piece of it, a packet of another flow, or that the slot of another flow
-- is emptied
pub data Event : Type 0 where
  Piece : (place : ℕ) → Event
  Other : (packet : PacketFields) → Event
  Emptied : (flow : Flow) → Event

-- a piece of the message is one of the body, and all else is of other flows
abbrev pub IsAmongOthers : Flow → List Bool → Event → Type 0
IsAmongOthers flow w (Piece k) = k < piece_count w
IsAmongOthers flow w (Other p) = same_flow flow (flow_of p) ≡ false
IsAmongOthers flow w (Emptied g) = same_flow flow g ≡ false

-- the places of the pieces that came, the newest first, after those that came before
abbrev pub places_in : List Event → List ℕ → List ℕ
places_in [] ks = ks
places_in (Piece k ∷ events) ks = k ∷ places_in events ks
places_in (Other p ∷ events) ks = places_in events ks
places_in (Emptied g ∷ events) ks = places_in events ks

-- the slots after one event
abbrev pub after_event : Flow → ℕ → List Bool → Event → List SlotState → List SlotState
after_event flow number w (Piece k) slots = added slots (piece_packet flow number w k)
after_event flow number w (Other p) slots = added slots p
after_event flow number w (Emptied g) slots = without slots g

-- the slots after events, the newest first
abbrev pub after_events : Flow → ℕ → List Bool → List SlotState → List Event → List SlotState
after_events flow number w slots [] = slots
after_events flow number w slots (e ∷ events) = after_event flow number w e (after_events flow number w slots events)
