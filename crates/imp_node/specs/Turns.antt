-- How a call of an IMP ends, and which calls may run out of memory.
use Rattle.std.specs.Prelude.{◌≡◌, ℕ, Bool, true, false, List, [], ◌∷◌, length, Option, Some, None, Result, Ok, Err, nat_lt, ◌||◌}
use Rattle.interface.specs.declared.address.Flow.{Flow}
use Rattle.interface.specs.declared.carrier.CarrierFault.{CarrierFault}
use Rattle.interface.specs.declared.carrier.CarrierFault.TheVariants as fault
use Rattle.imp_channel.specs.Holding.{packets_in}
use Rattle.imp_channel.specs.declared.frame.Frame.{Frame}
use Rattle.imp_node.specs.declared.outgoing.Outgoing.{Outgoing}
use Rattle.imp_node.specs.declared.waiting.Message.{Message}
use Rattle.imp_node.specs.declared.waiting.Told.{Told}
use Rattle.imp_node.specs.State.{State, ImpTurn, host_at, is_up, port_at}
use Rattle.imp_node.specs.Arrival.{from_line}
use Rattle.imp_node.specs.Taking.{to_host}
use Rattle.imp_node.specs.Lines.{resend, route, claim, end_down, end_up}
use Rattle.imp_node.specs.Room.{has_route}
use Rattle.imp_node.specs.Asking.{ask}
use Rattle.imp_node.specs.Stopping.{give_up, forget, abandon, host_down, host_up}

-- A call that is refused for `refusal`, and else gives a value with this property. The first refusal of the list is given, and
-- leaves the IMP as it was. Running out of memory comes last, only where something grows, and leaves the IMP spent: nothing else is
-- said of it then
abbrev pub Turned : {T : Type 0} → Option CarrierFault → Bool → (T → Type 0) → State → State → Result T CarrierFault → Type 0
Turned refusal grows Gives old new (Ok x) = (refusal ≡ None) × Gives x
Turned refusal grows Gives old new (Err fault.OutOfMemory) = (refusal ≡ None) × (grows ≡ true) × (new.spent ≡ true)
Turned refusal grows Gives old new (Err e) = (refusal ≡ Some e) × (new ≡ old)

-- the IMP and the frames are those of this turn
abbrev pub Takes : ImpTurn → State → List Outgoing → Type 0
Takes turn new frames = (new ≡ turn.state) × (frames ≡ turn.frames)

-- ---- memory

-- a turn puts a frame on some line: only this may take memory in any call
abbrev pub sends : ImpTurn → Bool
sends turn = nat_lt 0 (length turn.frames)

-- a message that is taken makes an RFNM
abbrev pub takes_message : List Told → List Message → Bool
takes_message [] (m ∷ others) = true
takes_message told queue = false

abbrev pub from_line_grows : State → ℕ → Frame → Bool
from_line_grows s k f = sends (from_line s k f)

abbrev pub to_host_grows : State → ℕ → Bool
to_host_grows s h = takes_message (host_at s h).answers (host_at s h).queue || sends (to_host s h)

abbrev pub resend_grows : State → Bool
resend_grows s = sends (resend s)

abbrev pub route_grows : State → Bool
route_grows s = sends (route s)

abbrev pub claim_grows : State → Bool
claim_grows s = sends (claim s)

-- the packets of busy channels move into the store
abbrev pub end_down_grows : State → ℕ → Bool
end_down_grows s k = nat_lt 0 (length (packets_in (port_at s.ports k).line.sending)) || sends (end_down s k)

abbrev pub end_up_grows : State → ℕ → Bool
end_up_grows s k = sends (end_up s k)

-- Incomplete waits for a source that is up
abbrev pub give_up_grows : State → Flow → Bool
give_up_grows s f = is_up s f.source.host || sends (give_up s f)

-- a question is stored where a route is
abbrev pub ask_grows : State → Flow → Bool
ask_grows s f = has_route s f.destination.imp || sends (ask s f)

abbrev pub forget_grows : State → ℕ → Bool
forget_grows s imp = sends (forget s imp)

abbrev pub abandon_grows : State → Flow → Bool
abandon_grows s f = sends (abandon s f)

-- the messages of its queue give Dead
abbrev pub host_down_grows : State → ℕ → Bool
host_down_grows s h = nat_lt 0 (length (host_at s h).queue) || sends (host_down s h)

abbrev pub host_up_grows : State → ℕ → Bool
host_up_grows s h = sends (host_up s h)
