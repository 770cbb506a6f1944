-- What is alive in a subnet: what its IMPs hold, and what live frames carry.
use Rattle.std.specs.Prelude.{ℕ, Bool, false, List, [], ◌++◌, Option, Some, None, ◌||◌, ◌&&◌, ◌==◌, not}
use Rattle.std.specs.List.{list_any, flat_map}
use Rattle.interface.specs.declared.address.Flow.{Flow}
use Rattle.packetiser.specs.PacketFields.{PacketFields}
use Rattle.imp_channel.specs.Holding.{carried_by}
use Rattle.imp_channel.specs.declared.frame.Frame.{Frame}
use Rattle.imp_node.specs.declared.waiting.Message.{Message}
use Rattle.imp_node.specs.State.{State, number}
use Rattle.imp_node.specs.Contents as imp
use Rattle.imp_node.specs.Queries.{holds, packet_has, holds_data, is_request_between, touches, packet_touches, keeps, awaits}
use Rattle.subnet.specs.Net.{Net, Wire}

-- ---- the packets and messages

abbrev pub packets_on : List Frame → List PacketFields
packets_on frames = flat_map (λ f. carried_by f.content) frames

abbrev pub packets_on_wire : Wire → List PacketFields
packets_on_wire w = packets_on w.forward ++ packets_on w.back

abbrev pub packets_at_imp : Option State → List PacketFields
packets_at_imp None = []
packets_at_imp (Some s) = imp.packets s

-- all packets: in stores, channels, slots and live frames
abbrev pub packets : Net → List PacketFields
packets n = flat_map packets_at_imp n.imps ++ flat_map packets_on_wire n.lines

abbrev pub messages_at_imp : Option State → List Message
messages_at_imp None = []
messages_at_imp (Some s) = imp.messages s

-- all messages in queues
abbrev pub messages : Net → List Message
messages n = flat_map messages_at_imp n.imps

-- ---- the questions, IMP by IMP and line by line

-- whether an IMP that is up says yes
abbrev pub says : (State → Bool) → Option State → Bool
says question None = false
says question (Some s) = question s

-- whether a live frame of a line carries such a packet
abbrev pub carries : (PacketFields → Bool) → Wire → Bool
carries test w = list_any test (packets_on_wire w)

abbrev pub anywhere : Net → (State → Bool) → (PacketFields → Bool) → Bool
anywhere n question test = list_any (says question) n.imps || list_any (carries test) n.lines

-- a packet or message of this flow and number is alive
abbrev pub is_alive : Net → Flow → ℕ → Bool
is_alive n f number = anywhere n (λ s. holds s f number) (packet_has f number)

-- data, a question or a message from a host at one IMP to a host at another is alive
abbrev pub has_data : Net → ℕ → ℕ → Bool
has_data n from to = anywhere n (λ s. holds_data s from to) (is_request_between from to)

-- something of a flow from or to an IMP is alive
abbrev pub has_flow : Net → ℕ → Bool
has_flow n i = anywhere n (λ s. touches s i) (packet_touches i)

-- another IMP keeps the last number of a flow from this one
abbrev pub is_remembered : Net → ℕ → Bool
is_remembered n i = list_any (says (λ s. not (number s == i) && keeps s i)) n.imps

-- a message to a host at this IMP is outstanding at another IMP that is up
abbrev pub is_awaited : Net → ℕ → Bool
is_awaited n i = list_any (says (λ s. not (number s == i) && awaits s i)) n.imps

-- the same of one IMP, if that is up
abbrev pub is_awaited_at : Option State → ℕ → Bool
is_awaited_at o i = says (λ s. awaits s i) o
