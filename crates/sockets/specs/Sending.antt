-- What goes out of a host next (NIC 8246, data and control messages).
use Rattle.std.specs.Prelude.{ℕ, List, [], ◌∷◌, Option, Some, None}
use Rattle.interface.specs.Host.{Host}
use Rattle.interface.specs.declared.message.HostMessage.{HostMessage}
use Rattle.host_pairs.specs.Desk.{DeskState, desk_of}
use Rattle.sockets.specs.Pairs.{NcpState, with_pair}
use Rattle.sockets.specs.declared.peer.Peer.{Peer}
use Rattle.host_pairs.specs.declared.notice.Notice.{Notice}
use Rattle.host_pairs.specs.Parcels.{Parcel, next_of, link_for, text_for, parcel_gone, pair_after}

-- ---- choosing

-- the first peer that something goes to
abbrev pub parcel_for : Peer → Option Parcel → Option (Peer × Parcel) → Option (Peer × Parcel)
parcel_for p (Some parcel) others = Some (p, parcel)
parcel_for p None others = others

abbrev pub next_in : List Peer → Option (Peer × Parcel)
next_in [] = None
next_in (p ∷ ps) = parcel_for p (next_of p.pair) (next_in ps)

-- ---- the message

abbrev pub message_for : Host → Peer → Parcel → HostMessage
message_for own p parcel = record {
  flow = record { source = own; destination = p.host; link = record { 0 = link_for parcel } };
  text = text_for p.pair parcel;
}

abbrev pub message_of : Host → Option (Peer × Parcel) → Option HostMessage
message_of own None = None
message_of own (Some (p, parcel)) = Some (message_for own p parcel)

-- the message that goes out next
unfoldable pub next_out : NcpState → Option HostMessage
next_out s = message_of s.own (next_in s.peers)

-- ---- what its going out changes

abbrev pub offered_as : NcpState → ℕ → Peer → Parcel → DeskState → NcpState × List Notice
offered_as s stamp p parcel d = (record s { peers = with_pair p.host (pair_after parcel p.pair d) s.peers }, d.notices)

abbrev pub offered_by : NcpState → ℕ → Option (Peer × Parcel) → NcpState × List Notice
offered_by s stamp None = (s, [])
offered_by s stamp (Some (p, parcel)) = offered_as s stamp p parcel (parcel_gone p.host stamp p.pair.busy parcel (desk_of p.pair s.listening))

-- the carrier took what goes out next, with its place in the log: the host after it, and the notices
unfoldable pub offered : NcpState → ℕ → NcpState × List Notice
offered s stamp = offered_by s stamp (next_in s.peers)
