-- The source's IMP asks what became of an outstanding message, in place of giving it up.
use Rattle.std.specs.Prelude.{ℕ, not, [], Option, Some, None, is_none, if◌then◌else◌}
use Rattle.interface.specs.declared.address.Flow.{Flow}
use Rattle.interface.specs.declared.carrier.CarrierFault.{CarrierFault}
use Rattle.interface.specs.declared.carrier.CarrierFault.TheVariants as fault
use Rattle.packetiser.specs.declared.packet.PacketKind.TheVariants as kind
use Rattle.imp_node.specs.State.{State, ImpTurn}
use Rattle.imp_node.specs.Room.{has_room_to}
use Rattle.imp_node.specs.Queries.{outstanding}
use Rattle.imp_node.specs.Flows.{answer_packet}
use Rattle.imp_node.specs.Offering.{is_own}
use Rattle.imp_node.specs.Pump.{stored, pump}

-- a question calls for room only where a live route leads to the destination's IMP. (None leads from an IMP to itself)
abbrev pub ask_refusal : State → Flow → Option CarrierFault
ask_refusal s f =
    if not (is_own s f.source) then Some fault.NoSuch
    else (if is_none (outstanding s f) then Some fault.NotOutstanding
    else (if not (has_room_to s f.destination.imp) then Some fault.NoRoom
    else None))

abbrev pub asked_by : Option ℕ → Flow → State → State
asked_by None f s = s
asked_by (Some n) f s = stored (answer_packet kind.Ask f n) s

-- A question with the outstanding number is stored, whether the host is up or down. Without a live route, and within one IMP, it is
-- dropped
abbrev pub ask : State → Flow → ImpTurn
ask s f = pump [] (asked_by (outstanding s f) f s)
