-- Giving up, forgetting and abandoning; and hosts that go down and come up.
use Rattle.std.specs.Prelude.{ℕ, true, not, List, [], ◌∷◌, Option, Some, None, is_none, is_some, ◌==◌, if◌then◌else◌}
use Rattle.std.specs.FinMap as map
use Rattle.interface.specs.Host.{Host}
use Rattle.interface.specs.declared.address.Flow.{Flow}
use Rattle.interface.specs.declared.carrier.CarrierFault.{CarrierFault}
use Rattle.interface.specs.declared.carrier.CarrierFault.TheVariants as fault
use Rattle.interface.specs.declared.crossing.Answer.TheVariants as answer
use Rattle.link_table.specs.Flows.{Sources, outstanding_in, given_up, handed, has_outstanding}
use Rattle.link_table.specs.Keys.{drop_from}
use Rattle.link_table.specs.declared.destination.Fate.TheVariants as fate
use Rattle.packetiser.specs.Slots.{slot_of, without}
use Rattle.packetiser.specs.declared.packet.PacketKind.TheVariants as kind
use Rattle.imp_node.specs.declared.waiting.Message.{Message}
use Rattle.imp_node.specs.declared.waiting.Told.{Told}
use Rattle.imp_node.specs.State.{State, ImpTurn, number, no_host, host_at, is_there, is_up, with_host}
use Rattle.imp_node.specs.Flows.{answer_queued, fated}
use Rattle.imp_node.specs.Offering.{is_own}
use Rattle.imp_node.specs.Pump.{pump}
use Rattle.imp_node.specs.Taking.{host_refusal, replied, reply_has_room}

-- ---- give_up, at the source

abbrev pub give_up_refusal : State → Flow → Option CarrierFault
give_up_refusal s f =
    if not (is_own s f.source) then Some fault.NoSuch
    else (if is_none (outstanding_in (map.get s.sources f)) then Some fault.NotOutstanding
    else None)

-- the outstanding message is given up: Incomplete waits for its source, if that is up
abbrev pub give_up : State → Flow → ImpTurn
give_up s f = pump [] (answer_queued answer.Incomplete f (record s { sources = given_up s.sources f }))

-- ---- forget and abandon, at the destination

abbrev pub forget_refusal : State → ℕ → Option CarrierFault
forget_refusal s imp = if imp == number s then Some fault.NoSuch else None

-- the last numbers of flows from another IMP are dropped
abbrev pub forget : State → ℕ → ImpTurn
forget s imp = pump [] (record s { kept = drop_from imp s.kept })

abbrev pub abandon_refusal : State → Flow → Option CarrierFault
abandon_refusal s f = if is_some (slot_of s.slots f) then None else Some fault.NoSuch

-- the flow's slot is thrown away
abbrev pub abandon : State → Flow → ImpTurn
abandon s f = pump [] (record s { slots = without s.slots f })

-- ---- a host goes down

abbrev pub host_down_refusal : State → ℕ → Option CarrierFault
host_down_refusal s h = host_refusal s h None

-- the flows of answers that nobody will take are idle
abbrev pub all_handed : List Told → Sources → Sources
all_handed [] sources = sources
all_handed (told ∷ others) sources = all_handed others (handed sources told.flow)

-- a message gives its source Dead, where there is room for that
abbrev pub told_back : Message → State → State
told_back m s = if reply_has_room s m then replied answer.Dead kind.Dead m s else s

-- each message that nobody will take is dead, and its source is informed where there is room, one after another
abbrev pub message_returned : Message → State → State
message_returned m s = told_back m (fated m.flow m.number fate.Dead s)

abbrev pub all_returned : List Message → State → State
all_returned [] s = s
all_returned (m ∷ others) s = all_returned others (message_returned m s)

-- Its answers and messages are cleared, and the host counts as down before its messages give Dead
abbrev pub stopped : State → ℕ → State
stopped s h = record (with_host s h no_host) { sources = all_handed (host_at s h).answers s.sources }

abbrev pub host_down : State → ℕ → ImpTurn
host_down s h = pump [] (all_returned (host_at s h).queue (stopped s h))

-- ---- a host comes up

-- a host of this IMP by its whole address
abbrev pub own_host : State → ℕ → Host
own_host s h = record { imp = number s; host = h }

-- it comes up only when none of its messages is outstanding
abbrev pub host_up_refusal : State → ℕ → Option CarrierFault
host_up_refusal s h =
    if not (is_there s h) then Some fault.NoSuch
    else (if is_up s h then Some fault.IsUp
    else (if has_outstanding (own_host s h) s.sources then Some fault.Unsettled
    else None))

abbrev pub host_up : State → ℕ → ImpTurn
host_up s h = pump [] (with_host s h (record (host_at s h) { up = true }))
