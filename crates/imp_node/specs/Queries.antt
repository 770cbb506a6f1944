-- What can be asked of an IMP: its flows, and what it holds of messages. (`begins` is in Offering.)
--
-- Holding is what counts as alive in an IMP: packets in its store, in channels and in slots, and messages in queues. An answer
-- that waits for a host does not count.
use Rattle.std.specs.Prelude.{ℕ, Bool, true, false, nat_lt, Option, ◌==◌, ◌&&◌, ◌||◌}
use Rattle.std.specs.FinMap as map
use Rattle.std.specs.List.{list_any}
use Rattle.interface.specs.Flow.{same_flow}
use Rattle.interface.specs.declared.address.Flow.{Flow}
use Rattle.link_table.specs.Flows.{last_in, outstanding_in, kept_in, has_outstanding_to}
use Rattle.link_table.specs.Keys.{has_from}
use Rattle.packetiser.specs.PacketFields.{PacketFields, flow_of}
use Rattle.packetiser.specs.declared.packet.PacketKind.{PacketKind}
use Rattle.packetiser.specs.declared.packet.PacketKind.TheVariants as kind
use Rattle.imp_node.specs.declared.waiting.Message.{Message}
use Rattle.imp_node.specs.State.{State}
use Rattle.imp_node.specs.Contents.{packets, messages}
use Rattle.imp_node.specs.Room.{stored_count}

-- ---- flows

-- the number of the outstanding message of a flow
abbrev pub outstanding : State → Flow → Option ℕ
outstanding s f = outstanding_in (map.get s.sources f)

-- the number begun last
abbrev pub last : State → Flow → Option ℕ
last s f = last_in (map.get s.sources f)

-- whether a message to a host at this IMP is outstanding
abbrev pub awaits : State → ℕ → Bool
awaits s imp = has_outstanding_to imp s.sources

-- the last number that it keeps of a flow
abbrev pub kept : State → Flow → Option ℕ
kept s f = kept_in (map.get s.kept f)

-- whether it keeps a last number of a flow from this IMP
abbrev pub keeps : State → ℕ → Bool
keeps s imp = has_from imp s.kept

-- ---- holding

-- a packet of any kind, or a message, of this flow and number
abbrev pub packet_has : Flow → ℕ → PacketFields → Bool
packet_has f n p = same_flow f (flow_of p) && p.number == n

abbrev pub message_has : Flow → ℕ → Message → Bool
message_has f n m = same_flow f m.flow && m.number == n

abbrev pub holds : State → Flow → ℕ → Bool
holds s f n = list_any (packet_has f n) (packets s) || list_any (message_has f n) (messages s)

-- any packet in its store or in a channel: one that waits for a channel, or for its acknowledgement
abbrev pub holds_packet : State → Bool
holds_packet s = nat_lt 0 (stored_count s)

-- what goes from a host at one IMP to a host at another
abbrev pub goes_between : ℕ → ℕ → Flow → Bool
goes_between from to f = f.source.imp == from && f.destination.imp == to

-- what travels to the destination: a piece of a message, or a question about one
abbrev pub is_request : PacketKind → Bool
is_request kind.Data = true
is_request kind.Rfnm = false
is_request kind.Dead = false
is_request kind.Ask = true
is_request kind.Never = false

abbrev pub is_request_between : ℕ → ℕ → PacketFields → Bool
is_request_between from to p = is_request p.kind && goes_between from to (flow_of p)

abbrev pub is_message_between : ℕ → ℕ → Message → Bool
is_message_between from to m = goes_between from to m.flow

-- data, a question counted, or a message from a host at one IMP to a host at another
abbrev pub holds_data : State → ℕ → ℕ → Bool
holds_data s from to = list_any (is_request_between from to) (packets s) || list_any (is_message_between from to) (messages s)

-- anything of a flow from or to a host at this IMP
abbrev pub is_at_end : ℕ → Flow → Bool
is_at_end imp f = f.source.imp == imp || f.destination.imp == imp

abbrev pub packet_touches : ℕ → PacketFields → Bool
packet_touches imp p = is_at_end imp (flow_of p)

abbrev pub message_touches : ℕ → Message → Bool
message_touches imp m = is_at_end imp m.flow

abbrev pub touches : State → ℕ → Bool
touches s imp = list_any (packet_touches imp) (packets s) || list_any (message_touches imp) (messages s)
