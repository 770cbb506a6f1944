-- What goes out of a pair next (NIC 8246: RST and RRP each go by themselves, control messages hold 120 octets, data go within the allocation).
use Rattle.std.specs.Prelude.{ℕ, ◌*◌, ◌/◌, ◌==◌, ◌&&◌, not, Bool, false, nat_lt, min, if◌then◌else◌, List, [], ◌∷◌, length, take, drop, filter, find, Option, Some, None, is_some}
use Rattle.interface.specs.Host.{Host}
use Rattle.ncp_control.specs.Allocation as counters
use Rattle.ncp_control.specs.Command.{spelling}
use Rattle.ncp_control.specs.Packing.{spellings, packed_count}
use Rattle.ncp_control.specs.declared.command.Command.{Command}
use Rattle.ncp_control.specs.declared.command.Command.TheVariants as command
use Rattle.host_pairs.specs.Commands.{changed}
use Rattle.host_pairs.specs.Control.{control_text}
use Rattle.host_pairs.specs.Data.{data_text}
use Rattle.host_pairs.specs.Entries.{is_at, is_receiving, is_open, is_answered, is_busy, entry_at, changed_at, opening_notices}
use Rattle.host_pairs.specs.Pair.{PairState}
use Rattle.host_pairs.specs.Desk.{DeskState, desk_told, swept}
use Rattle.ncp_control.specs.Phases.{is_want, is_ready}
use Rattle.host_pairs.specs.declared.entry.Closing.TheVariants as closing
use Rattle.host_pairs.specs.declared.entry.Entry.{Entry}
use Rattle.host_pairs.specs.declared.notice.Notice.TheVariants as notice
use Rattle.ncp_control.specs.declared.phase.Phase.TheVariants as phase

-- what goes out in one message: an RST, an RRP, this many of the commands that wait, or this many bytes of an end
pub data Parcel : Type 0 where
  Reset : Parcel
  Reply : Parcel
  Commands : (count : ℕ) → Parcel
  Bytes : (entry : Entry) → (size : ℕ) → (count : ℕ) → Parcel

-- ---- choosing

-- how many bytes an end may send now: as many as wait, as are granted, and as one message holds
abbrev pub sendable_by : Option ℕ → Entry → ℕ
sendable_by None e = 0
sendable_by (Some size) e = counters.may_send e.allocation size (length e.bits / size)

abbrev pub sendable : Entry → ℕ
sendable e = sendable_by e.size e

-- an open sending end whose link is known and free, with something to send
abbrev pub may_send : List ℕ → Entry → Bool
may_send busy e = not (is_receiving e) && is_open e && is_some e.link && is_answered busy e.link && nat_lt 0 (sendable e)

abbrev pub link_of : Option ℕ → ℕ
link_of None = 0
link_of (Some link) = link

-- the least of the links of these ends
abbrev pub lower : ℕ → Option ℕ → ℕ
lower link None = link
lower link (Some other) = min link other

abbrev pub lowest_link : List Entry → Option ℕ
lowest_link [] = None
lowest_link (e ∷ es) = Some (lower (link_of e.link) (lowest_link es))

-- an end that may send now on this link
abbrev pub may_send_on : List ℕ → ℕ → Entry → Bool
may_send_on busy link e = may_send busy e && link_of e.link == link

abbrev pub bytes_by : Entry → Option ℕ → Option Parcel
bytes_by e None = None
bytes_by e (Some size) = Some (Bytes e size (sendable e))

abbrev pub bytes_of : Option Entry → Option Parcel
bytes_of None = None
bytes_of (Some e) = bytes_by e e.size

abbrev pub bytes_on : List ℕ → List Entry → Option ℕ → Option Parcel
bytes_on busy entries None = None
bytes_on busy entries (Some link) = bytes_of (find (may_send_on busy link) entries)

-- of the ends that may send, that with the lowest link does
abbrev pub next_bytes : List ℕ → List Entry → Option Parcel
next_bytes busy entries = bytes_on busy entries (lowest_link (filter (may_send busy) entries))

-- RST and RRP wait until no message to the peer is outstanding
abbrev pub if_silent : List ℕ → Parcel → Option Parcel
if_silent busy parcel = if length busy == 0 then Some parcel else None

-- commands go before data, as many as one control message holds
abbrev pub next_of_ready : PairState → Option Parcel
next_of_ready q =
    if nat_lt 0 (length q.queue) && not (is_busy q.busy 0) then Some (Commands (packed_count q.queue))
    else next_bytes q.busy q.entries

-- RST goes first, then RRP, and while one of them waits nothing else goes
abbrev pub next_of : PairState → Option Parcel
next_of q =
    if is_want q.phase then if_silent q.busy Reset
    else (if q.owed then if_silent q.busy Reply
    else (if is_ready q.phase then next_of_ready q
    else None))

-- ---- the message

abbrev pub link_for : Parcel → ℕ
link_for (Bytes e size count) = link_of e.link
link_for parcel = 0

abbrev pub text_for : PairState → Parcel → List Bool
text_for q Reset = control_text (spelling command.Rst)
text_for q Reply = control_text (spelling command.Rrp)
text_for q (Commands count) = control_text (spellings (take count q.queue))
text_for q (Bytes e size count) = data_text size count (take (size * count) e.bits)

-- ---- what its going out changes

abbrev pub asked_at : ℕ → Entry → Entry
asked_at stamp e = record e { asked = Some stamp }

abbrev pub cls_sent : Entry → Entry
cls_sent e = record e { closing = closing.Sent }

-- a request of this host has gone out, and the connection may be open by it
abbrev pub request_gone : Host → ℕ → ℕ → ℕ → DeskState → DeskState
request_gone peer stamp own foreign d =
    desk_told (opening_notices peer (entry_at own foreign (changed_at own foreign (asked_at stamp) d.entries))) (changed (is_at own foreign) (asked_at stamp) d)

abbrev pub command_gone : Host → ℕ → Command → DeskState → DeskState
command_gone peer stamp (command.Rts receive send link) d = request_gone peer stamp receive send d
command_gone peer stamp (command.Str send receive size) d = request_gone peer stamp send receive d
command_gone peer stamp (command.Cls own foreign) d = swept peer (changed (is_at own foreign) cls_sent d)
command_gone peer stamp c d = d

-- one command after another
abbrev pub commands_gone : Host → ℕ → List Command → DeskState → DeskState
commands_gone peer stamp [] d = d
commands_gone peer stamp (c ∷ cs) d = commands_gone peer stamp cs (command_gone peer stamp c d)

-- this many bits of an end have gone out
abbrev pub bits_gone : ℕ → Entry → Entry
bits_gone bits e = record e { bits = drop bits e.bits; allocation = counters.spent e.allocation bits }

abbrev pub with_connections : PairState → DeskState → PairState
with_connections q d = record q { entries = d.entries; queue = d.queue }

-- a link has a message outstanding
abbrev pub busied : ℕ → PairState → PairState
busied link q = record q { busy = link ∷ q.busy }

-- this many commands have gone out
abbrev pub unqueued : ℕ → DeskState → DeskState
unqueued count d = record d { queue = drop count d.queue }

-- the desk after a parcel with commands or bytes
abbrev pub parcel_gone : Host → ℕ → List ℕ → Parcel → DeskState → DeskState
parcel_gone peer stamp busy (Commands count) d = unqueued count (commands_gone peer stamp (take count d.queue) d)
parcel_gone peer stamp busy (Bytes e size count) d =
    desk_told (notice.Sent e.own (take (size * count) e.bits) ∷ []) (changed (may_send_on busy (link_of e.link)) (bits_gone (size * count)) d)
parcel_gone peer stamp busy parcel d = d

-- the reset after a parcel with an RST or an RRP
abbrev pub signal_gone : Parcel → PairState → PairState
signal_gone Reset q = record q { phase = phase.Gone false }
signal_gone Reply q = record q { owed = false }
signal_gone parcel q = q

abbrev pub pair_after : Parcel → PairState → DeskState → PairState
pair_after parcel q d = busied (link_for parcel) (with_connections (signal_gone parcel q) d)
