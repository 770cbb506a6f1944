-- A host hands a message to its IMP.
use Rattle.std.specs.Prelude.{Bool, true, false, not, [], ◌++◌, Option, Some, None, ◌==◌, ◌&&◌, if◌then◌else◌}
use Rattle.bit_messages.specs.Body.{body}
use Rattle.interface.specs.Host.{Host}
use Rattle.interface.specs.declared.address.Flow.{Flow}
use Rattle.interface.specs.declared.carrier.CarrierFault.{CarrierFault}
use Rattle.interface.specs.declared.carrier.CarrierFault.TheVariants as fault
use Rattle.interface.specs.declared.crossing.Answer.TheVariants as answer
use Rattle.interface.specs.declared.message.HostMessage.{HostMessage}
use Rattle.link_table.specs.declared.destination.Fate.TheVariants as fate
use Rattle.packetiser.specs.Pieces.{piece_count, packets_of}
use Rattle.imp_node.specs.State.{State, ImpTurn, number, is_there, is_up}
use Rattle.imp_node.specs.Room.{has_room, has_route, queue_has_room}
use Rattle.imp_node.specs.Flows.{is_idle, next_number, with_begun, answer_queued, noted, message_queued}
use Rattle.imp_node.specs.Pump.{pump}

-- ---- where a message goes

pub data Way : Type 0 where
  -- nowhere: its destination is at another IMP and no live route leads there, or is a host of this IMP that is down or not there
  Nowhere : Way
  -- to a host of this IMP
  Here : Way
  -- to another IMP, over lines
  Away : Way

abbrev pub way_of : State → Flow → Way
way_of s f =
    if f.destination.imp == number s
    then (if is_up s f.destination.host then Here else Nowhere)
    else (if has_route s f.destination.imp then Away else Nowhere)

-- ---- the refusals

-- whether this is a host of the IMP
abbrev pub is_own : State → Host → Bool
is_own s h = h.imp == number s && is_there s h.host

-- room for what it calls for: a place in its destination's queue, or places for all its packets in the store
abbrev pub way_has_room : Way → State → HostMessage → Bool
way_has_room Nowhere s m = true
way_has_room Here s m = queue_has_room s m.flow.destination.host
way_has_room Away s m = has_room s (piece_count (body m.text))

abbrev pub from_host_refusal : State → HostMessage → Option CarrierFault
from_host_refusal s m =
    if not (is_own s m.flow.source) then Some fault.NoSuch
    else (if not (is_up s m.flow.source.host) then Some fault.IsDown
    else (if not (is_idle s m.flow) then Some fault.Blocked
    else (if not (way_has_room (way_of s m.flow) s m) then Some fault.NoRoom
    else None)))

-- ---- the call

-- To nowhere: no number is begun, and Dead waits for the source at once. To a host of this IMP: the number is begun and noted, and
-- the message waits for the host. Over lines: the number is begun, and all packets of the message go into the store
abbrev pub offered : Way → HostMessage → State → State
offered Nowhere m s = answer_queued answer.Dead m.flow s
offered Here m s =
    message_queued (record { flow = m.flow; number = next_number s m.flow; text = m.text }) (noted m.flow (next_number s m.flow) fate.Waits (with_begun m.flow s))
offered Away m s = record (with_begun m.flow s) { store = s.store ++ packets_of m.flow (next_number s m.flow) (body m.text) }

abbrev pub from_host : State → HostMessage → ImpTurn
from_host s m = pump [] (offered (way_of s m.flow) m s)

-- a message, or the Dead in its place, is always put somewhere
abbrev pub from_host_grows : State → HostMessage → Bool
from_host_grows s m = true

-- ---- the question

abbrev pub goes : Way → Bool
goes Nowhere = false
goes Here = true
goes Away = true

-- whether a message of this flow would begin a number, if there were room for it
abbrev pub begins : State → Flow → Bool
begins s f = is_own s f.source && (is_up s f.source.host && (is_idle s f && goes (way_of s f)))
