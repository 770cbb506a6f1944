-- Looking through all that an IMP holds.
use Rattle.imp_node.proofs.Common.{list_any, flat_map, Flow, PacketFields, flow_of, Channel, Port, State, HostState, packets_in_channels, messages, is_request}
use Rattle.std.proofs.Common.{◌≡◌, ℕ, zero, suc, ◌<◌, ◌≤◌, Bool, true, false, ◌||◌, ◌&&◌, List, [], ◌∷◌, ◌++◌, length, drop, slice_get, option_map, All, Some, None, refl, ap, sym, ◌∙◌, arith}
use Rattle.std.proofs.lemmas.List.{drop_all}
use Rattle.std.proofs.lemmas.List.Folds.{list_any-append}
use Rattle.std.proofs.lemmas.List.Sorted.{list_any-IsPermutation, length_permutation}
use Rattle.interface.proofs.lemmas.{or_nothing}
use Rattle.packetiser.specs.Slots as slots
use Rattle.packetiser.specs.Slots.{SlotState, IsSlot, IsTable, IsPieceFor, in_some_order}
use Rattle.packetiser.specs.declared.reassembly.Held.{Held}
use Rattle.packetiser.proofs.lemmas.{named_once}
use Rattle.imp_channel.specs.Holding as channels
use Rattle.imp_node.specs.declared.seeking.Sought.{Sought}
use Rattle.imp_node.specs.Inside.Seeking.{is_sought, packet_is, message_is, found}

-- what is looked for in lists, one after another
any_flat : {X A : Type 0} (p : A → Bool) (f : X → List A) (xs : List X) → list_any p (flat_map f xs) ≡ list_any (λ x. list_any p (f x)) xs
any_flat p f [] = refl
any_flat p f (x ∷ xs) = list_any-append p (f x) (flat_map f xs) ∙ ap (λ (b : Bool). list_any p (f x) || b) (any_flat p f xs)

none_in : (q : Sought) (ps : List PacketFields) → length ps ≡ 0 → list_any (packet_is q) ps ≡ false
none_in q [] none = refl
none_in q (p ∷ ps) none = absurd (omega (arith, none))

pub any_in_channels : (q : Sought) (chs : List Channel) → list_any (packet_is q) (channels.packets_in chs) ≡ list_any (λ channel. list_any (packet_is q) (channels.packet_of channel.packet)) chs
any_in_channels q [] = refl
any_in_channels q (ch ∷ chs) =
    list_any-append (packet_is q) (channels.packet_of ch.packet) (channels.packets_in chs)
    ∙ ap (λ (b : Bool). list_any (packet_is q) (channels.packet_of ch.packet) || b) (any_in_channels q chs)

-- nothing is found where nothing is
pub none_in_channels : (q : Sought) (chs : List Channel) → length (channels.packets_in chs) ≡ 0 → list_any (packet_is q) (channels.packets_in chs) ≡ false
none_in_channels q chs none = none_in q _ none

pub any_in_ports : (q : Sought) (ports : List Port) → list_any (packet_is q) (packets_in_channels ports) ≡ list_any (λ port. list_any (packet_is q) (channels.packets_in port.line.sending)) ports
any_in_ports q ports = any_flat _ _ ports

pub any_in_queues : (q : Sought) (hosts : List HostState) → list_any (message_is q) (flat_map (λ h. h.queue) hosts) ≡ list_any (λ h. list_any (message_is q) h.queue) hosts
any_in_queues q hosts = any_flat _ _ hosts

-- a slot holds pieces of one message, at least one: so one of them is sought where the message is
abbrev pub slot_is : Sought → SlotState → Bool
slot_is q s = is_sought q true s.flow s.number

piece_is : (q : Sought) (s : SlotState) (p : PacketFields) → IsPieceFor s.flow s.number p → packet_is q p ≡ slot_is q s
piece_is q s p of =
    ap (λ (kind : _). is_sought q (is_request kind) (flow_of p) p.number) of.data_kind
    ∙ (ap (λ (f : Flow). is_sought q true f p.number) of.flow ∙ ap (λ (n : ℕ). is_sought q true s.flow n) of.same_number)

or_itself : (a b c : Bool) → a ≡ c → b ≡ c → (a || b) ≡ c
or_itself true b c e h = e
or_itself false b c e h = h

all_alike : (q : Sought) (s : SlotState) (ps : List PacketFields) → 0 < length ps → All (IsPieceFor s.flow s.number) ps → list_any (packet_is q) ps ≡ slot_is q s
all_alike q s [] some of = absurd (omega arith)
all_alike q s (p ∷ []) some of = or_nothing _ ∙ piece_is q s p (of 0 p (omega arith))
all_alike q s (p ∷ r ∷ ps) some of =
    or_itself _ _ _ (piece_is q s p (of 0 p (omega arith)))
    (all_alike q s (r ∷ ps) (omega arith) (λ k d within. of (suc k) d (omega arith)))

slots_alike : (q : Sought) (table : List SlotState) → All IsSlot table → list_any (λ s. list_any (packet_is q) s.pieces) table ≡ list_any (slot_is q) table
slots_alike q [] sound = refl
slots_alike q (s ∷ table) sound =
    let slot : IsSlot s = sound 0 s (omega arith) in
    ap (λ (b : Bool). b || list_any (λ t. list_any (packet_is q) t.pieces) table) (all_alike q s _ slot.some slot.pieces)
    ∙ ap (λ (b : Bool). slot_is q s || b) (slots_alike q table (λ k d within. sound (suc k) d (omega arith)))

pub any_in_slots : (q : Sought) (table : List SlotState) → IsTable table → list_any (packet_is q) (slots.packets_in table) ≡ list_any (slot_is q) (in_some_order table)
any_in_slots q table is =
    any_flat _ _ table ∙ (slots_alike q table is.sound ∙ sym (list_any-IsPermutation (slot_is q) (in_some_order table) table (named_once table)))

-- the slots from one on
pub slot_step : (q : Sought) (order : List SlotState) (k : ℕ) (held : Held) → Some held ≡ option_map (λ s. record { flow = s.flow; number = s.number }) (slice_get order k)
    → (k < length order) × (list_any (slot_is q) (drop k order) ≡ (is_sought q true held.flow held.number || list_any (slot_is q) (drop (suc k) order)))
slot_step q [] k held e = cc
slot_step q (s ∷ order) zero held e =
    let same : held ≡ record { flow = s.flow; number = s.number } = cc in
    (omega arith, ap (λ (h : Held). is_sought q true h.flow h.number || list_any (slot_is q) order) (sym same))
slot_step q (s ∷ order) (suc k) held e =
    let rest : (k < length order) × (list_any (slot_is q) (drop k order) ≡ (is_sought q true held.flow held.number || list_any (slot_is q) (drop (suc k) order))) = slot_step q order k held e in
    (omega (arith, rest.0), rest.1)

pub slot_end : (q : Sought) (order : List SlotState) (k : ℕ) → None ≡ option_map (λ s. let h : Held = record { flow = s.flow; number = s.number } in h) (slice_get order k)
    → list_any (slot_is q) (drop k order) ≡ false
slot_end q [] k e = ap (list_any (slot_is q)) (drop_all k [] (omega arith))
slot_end q (s ∷ order) zero e = cc
slot_end q (s ∷ order) (suc k) e = slot_end q order k e

or_four : (a b c d : Bool) → ((a || (b || c)) || d) ≡ (a || (b || (c || d)))
or_four true b c d = refl
or_four false true c d = refl
or_four false false c d = refl

pub found_is : (q : Sought) (s : State) → found q s
    ≡ (list_any (packet_is q) s.store || (list_any (packet_is q) (packets_in_channels s.ports) || (list_any (packet_is q) (slots.packets_in s.slots) || list_any (message_is q) (messages s))))
found_is q s =
    ap (λ (b : Bool). b || list_any (message_is q) (messages s))
    (list_any-append (packet_is q) s.store (packets_in_channels s.ports ++ slots.packets_in s.slots)
    ∙ ap (λ (b : Bool). list_any (packet_is q) s.store || b) (list_any-append (packet_is q) (packets_in_channels s.ports) (slots.packets_in s.slots)))
    ∙ or_four (list_any (packet_is q) s.store) (list_any (packet_is q) (packets_in_channels s.ports)) (list_any (packet_is q) (slots.packets_in s.slots)) (list_any (message_is q) (messages s))

-- at most eight slots are named
pub few_named : (table : List SlotState) → IsTable table → length (in_some_order table) ≤ 8
few_named table is = omega (arith, is.few, length_permutation (in_some_order table) table (named_once table))
