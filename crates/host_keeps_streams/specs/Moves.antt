-- What the calls of a host's program are on one link: moves of the law's receiver, and of its sender (NIC 8246, the control commands).
use Rattle.std.specs.Prelude.{ℕ, ◌*◌, ◌==◌, ◌&&◌, not, Bool, true, false, if◌then◌else◌, List, [], ◌∷◌, ◌++◌, take, Option, Some, None, is_some}
use Rattle.std.specs.List.{list_any}
use Rattle.ncp_control.specs.declared.command.Command.{Command}
use Rattle.ncp_control.specs.declared.command.Command.TheVariants as command
use Rattle.ncp_control.specs.DataHeader.{data_bits}
use Rattle.ncp_control.specs.declared.data_header.DataHeader.{DataHeader}
use Rattle.stream_law.specs.Words.{Rts, Str, All, Gvb, Ret, Cls}
use Rattle.stream_law.specs.Receivers as receivers
use Rattle.stream_law.specs.Senders as senders
use Rattle.stream_law.specs.Senders.{Sender}
use Rattle.host_pairs.specs.Data.{data_of}
use Rattle.host_pairs.specs.Desk.{DeskState, listener_on}
use Rattle.host_pairs.specs.Entries.{changed_at, closed_by_partner, entry_at, free_link, is_receiving, must_close, receives_on, sends_on}
use Rattle.host_pairs.specs.declared.entry.Entry.{Entry}
use Rattle.host_pairs.specs.declared.listener.Listener.{Listener}
use Rattle.host_keeps_streams.specs.Closings.{received_close, received_gone, received_open, sent_open}
use Rattle.host_keeps_streams.specs.Names.{named}

-- ---- the receiver

-- a socket that listens answers an STR on the lowest free link, which may be this one
abbrev pub answers_str : ℕ → ℕ → Option Listener → Option ℕ → List receivers.Move
answers_str link c None free = []
answers_str link c (Some l) None = []
answers_str link c (Some l) (Some other) = if other == link then receivers.Ask c ∷ [] else []

-- an STR says the byte size of its connection, on whatever link that is. A second one is an error
abbrev pub str_received : ℕ → ℕ → ℕ → Option Listener → Option ℕ → Option Entry → List receivers.Move
str_received link c size listener free None = receivers.Hear (Str c size) ∷ answers_str link c listener free
str_received link c size listener free (Some e) = if is_some e.partner then [] else receivers.Hear (Str c size) ∷ received_open (receives_on link e && is_some e.asked) c

-- the first CLS for an end that receives; a second one does nothing
abbrev pub closes_on : ℕ → ℕ → Entry → List receivers.Move
closes_on link c e = if receives_on link e then received_close e.closing c else []

abbrev pub cls_received : ℕ → ℕ → Option Entry → List receivers.Move
cls_received link c None = []
cls_received link c (Some e) = if is_receiving e && not e.partner_closed then receivers.Hear (Cls c) ∷ closes_on link c e else []

-- a command of the peer. `said` is the number of the connection in which a RET was said
abbrev pub received_by : (ℕ → ℕ → ℕ) → ℕ → ℕ → Command → DeskState → List receivers.Move
received_by name link said (command.Str send receive size) d = str_received link (name receive send) size (listener_on receive d.listening) (free_link d.entries) (entry_at receive send d.entries)
received_by name link said (command.Cls foreign own) d = cls_received link (name own foreign) (entry_at own foreign d.entries)
received_by name link said (command.Ret l messages bits) d = if l == link then receivers.Hear (Ret said messages bits) ∷ [] else []
received_by name link said c d = []

-- ---- the sender

-- what concerns a connection, where the law's end is of it
abbrev pub of_end : ℕ → Option ℕ → List senders.Move → List senders.Move
of_end c None moves = []
of_end c (Some own) moves = if own == c then moves else []

-- an RTS on this link
abbrev pub hears_rts : Bool → ℕ → List senders.Move
hears_rts true c = senders.Hear (Rts c) ∷ []
hears_rts false c = []

-- an RTS for an end; a second one is an error. Where nobody waits for it, a socket that listens answers, or it is refused
abbrev pub rts_sent : Bool → ℕ → Option Listener → Option Entry → List senders.Move
rts_sent here c None None = hears_rts here c ++ senders.Close c ∷ []
rts_sent here c (Some l) None = senders.Ask c l.size ∷ hears_rts here c
rts_sent here c listener (Some e) = if is_some e.partner then [] else hears_rts here c ++ sent_open (here && is_some e.asked) c

-- each sending end that has to close now does so, whatever its link is
abbrev pub closes : (ℕ → ℕ → ℕ) → List ℕ → List Entry → List senders.Move
closes name busy [] = []
closes name busy (e ∷ entries) = if must_close busy e && not (is_receiving e) then senders.Close (named name e) ∷ closes name busy entries else closes name busy entries

-- the first CLS for an end: it is heard on the link on which the end's RTS was
abbrev pub cls_sent : (ℕ → ℕ → ℕ) → List ℕ → ℕ → ℕ → List Entry → Sender → Option Entry → List senders.Move
cls_sent name busy own foreign entries s None = []
cls_sent name busy own foreign entries s (Some e) =
    if e.partner_closed then []
    else (if is_receiving e then [] else of_end (named name e) s.end (senders.Hear (Cls (named name e)) ∷ [])) ++ closes name busy (changed_at own foreign closed_by_partner entries)

-- a command of the peer. `said` is the number of the connection in which an ALL or a GVB was said
abbrev pub sent_by : (ℕ → ℕ → ℕ) → ℕ → ℕ → List ℕ → Command → DeskState → Sender → List senders.Move
sent_by name link said busy (command.Rts receive send l) d s =
    if list_any (sends_on l) d.entries then []
    else rts_sent (l == link) (name send receive) (listener_on send d.listening) (entry_at send receive d.entries)
sent_by name link said busy (command.Cls foreign own) d s = cls_sent name busy own foreign d.entries s (entry_at own foreign d.entries)
sent_by name link said busy (command.All l messages bits) d s = if l == link then senders.Hear (All said messages bits) ∷ [] else []
sent_by name link said busy (command.Gvb l messages bits) d s = if l == link then senders.Hear (Gvb said messages bits) ∷ [] else []
sent_by name link said busy c d s = []

-- ---- data

-- a message of data on link `l`. One without a header is an error
abbrev pub data_received : ℕ → ℕ → List Bool → Option DataHeader → List receivers.Move
data_received link l text None = []
data_received link l text (Some h) = if l == link then receivers.Take h.size (data_of (data_bits h) text) ∷ [] else []

-- ---- what goes out

-- an own request has gone out, for an end on this link: it opens if its partner's was taken
abbrev pub asked_received : (ℕ → ℕ → ℕ) → ℕ → Option Entry → List receivers.Move
asked_received name link None = []
asked_received name link (Some e) = if receives_on link e then received_open (is_some e.partner) (named name e) else []

abbrev pub asked_sent : (ℕ → ℕ → ℕ) → ℕ → Sender → Option Entry → List senders.Move
asked_sent name link s None = []
asked_sent name link s (Some e) = if sends_on link e then of_end (named name e) s.end (sent_open (is_some e.partner) (named name e)) else []

-- an own CLS has gone out: a receiving end is free if it heard one
abbrev pub closed_received : (ℕ → ℕ → ℕ) → ℕ → Option Entry → List receivers.Move
closed_received name link None = []
closed_received name link (Some e) = if receives_on link e then received_gone e.partner_closed (named name e) else []

-- a command that goes out
abbrev pub received_out : (ℕ → ℕ → ℕ) → ℕ → Command → List Entry → List receivers.Move
received_out name link (command.Rts receive send l) entries = asked_received name link (entry_at receive send entries)
received_out name link (command.Str send receive size) entries = asked_received name link (entry_at send receive entries)
received_out name link (command.Cls own foreign) entries = closed_received name link (entry_at own foreign entries)
received_out name link c entries = []

abbrev pub sent_out : (ℕ → ℕ → ℕ) → ℕ → Command → List Entry → Sender → List senders.Move
sent_out name link (command.Rts receive send l) entries s = asked_sent name link s (entry_at receive send entries)
sent_out name link (command.Str send receive size) entries s = asked_sent name link s (entry_at send receive entries)
sent_out name link c entries s = []

-- bytes that go out of an end
abbrev pub bytes_sent : (ℕ → ℕ → ℕ) → ℕ → Entry → ℕ → ℕ → List senders.Move
bytes_sent name link e size count = if sends_on link e then senders.Send (named name e) size (take (size * count) e.bits) ∷ [] else []

-- ---- what a user asks of an end: to grant, to ask back, and to close

abbrev pub on_link : ℕ → Entry → List receivers.Move → List receivers.Move
on_link link e moves = if receives_on link e then moves else []

-- a receiving end, on the lowest free link
abbrev pub asks_for : ℕ → ℕ → Option ℕ → List receivers.Move
asks_for link c None = []
asks_for link c (Some other) = if other == link then receivers.Ask c ∷ [] else []

-- ---- answers

-- the answer to what was sent on link `l` has come, and ends that waited for it close
abbrev pub told_on : ℕ → ℕ → List senders.Move
told_on link l = if l == link then senders.Told ∷ [] else []

-- ---- words for worked examples

-- these ends, and these sockets that listen
abbrev pub desk : List Entry → List Listener → DeskState
desk entries listening = record { entries = entries; queue = []; listening = listening; notices = [] }
