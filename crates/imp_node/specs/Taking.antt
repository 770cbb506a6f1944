-- A host takes what waits for it.
use Rattle.std.specs.Prelude.{ℕ, Bool, true, not, List, [], ◌∷◌, Option, Some, None, is_none, is_some, ◌==◌, ◌&&◌, if◌then◌else◌}
use Rattle.interface.specs.declared.carrier.CarrierFault.{CarrierFault}
use Rattle.interface.specs.declared.carrier.CarrierFault.TheVariants as fault
use Rattle.interface.specs.declared.crossing.Answer.{Answer}
use Rattle.interface.specs.declared.crossing.Answer.TheVariants as answer
use Rattle.interface.specs.declared.crossing.Inbound.{Inbound}
use Rattle.interface.specs.declared.crossing.Inbound.TheVariants as inbound
use Rattle.link_table.specs.Flows.{handed}
use Rattle.link_table.specs.declared.destination.Fate.TheVariants as fate
use Rattle.packetiser.specs.declared.packet.PacketKind.{PacketKind}
use Rattle.packetiser.specs.declared.packet.PacketKind.TheVariants as kind
use Rattle.imp_node.specs.declared.waiting.Message.{Message}
use Rattle.imp_node.specs.declared.waiting.Told.{Told}
use Rattle.imp_node.specs.State.{State, ImpTurn, number, host_at, is_there, is_up, with_host}
use Rattle.imp_node.specs.Room.{has_room_to}
use Rattle.imp_node.specs.Flows.{freed, fated, answer_packet}
use Rattle.imp_node.specs.Pump.{stored, pump}

-- ---- what it gets: the oldest answer, else the oldest message

abbrev pub first_of : List Told → List Message → Option Inbound
first_of (told ∷ others) queue = Some (inbound.Answer told.kind told.flow)
first_of [] (m ∷ others) = Some (inbound.Message (record { flow = m.flow; text = m.text }))
first_of [] [] = None

abbrev pub next_for : State → ℕ → Option Inbound
next_for s h = first_of (host_at s h).answers (host_at s h).queue

-- ---- the source is notified

-- whether a message's source is a host of this IMP
abbrev pub is_from_here : State → Message → Bool
is_from_here s m = m.flow.source.imp == number s

-- An answer goes to the source of a message that waited here: at once where the source is at this IMP, else as a packet
abbrev pub replied : Answer → PacketKind → Message → State → State
replied kind packet m s =
    if is_from_here s m then freed kind m.flow m.number s else stored (answer_packet packet m.flow m.number) s

-- the room that this calls for
abbrev pub reply_has_room : State → Message → Bool
reply_has_room s m = if is_from_here s m then true else has_room_to s m.flow.source.imp

-- ---- the refusals

-- what only a host that is up may ask
abbrev pub host_refusal : State → ℕ → Option CarrierFault → Option CarrierFault
host_refusal s h others = if not (is_there s h) then Some fault.NoSuch else (if not (is_up s h) then Some fault.IsDown else others)

-- a message is taken only where its RFNM has room
abbrev pub taking_has_room : List Told → List Message → State → Bool
taking_has_room (told ∷ others) queue s = true
taking_has_room [] (m ∷ others) s = reply_has_room s m
taking_has_room [] [] s = true

abbrev pub to_host_refusal : State → ℕ → Option CarrierFault
to_host_refusal s h = host_refusal s h (if taking_has_room (host_at s h).answers (host_at s h).queue s then None else Some fault.NoRoom)

-- whether a host gets something when it takes: nothing refuses it, and something waits
abbrev pub gives : State → ℕ → Bool
gives s h = is_none (to_host_refusal s h) && is_some (next_for s h)

-- ---- the call

-- With its answer a flow becomes idle. A message is taken now, and an RFNM goes to its source in the same step
abbrev pub taken_by : ℕ → List Told → List Message → State → State
taken_by h (told ∷ others) queue s = record (with_host s h (record (host_at s h) { answers = others })) { sources = handed s.sources told.flow }
taken_by h [] (m ∷ others) s = replied answer.Rfnm kind.Rfnm m (fated m.flow m.number fate.Taken (with_host s h (record (host_at s h) { queue = others })))
taken_by h [] [] s = s

abbrev pub to_host : State → ℕ → ImpTurn
to_host s h = pump [] (taken_by h (host_at s h).answers (host_at s h).queue s)
