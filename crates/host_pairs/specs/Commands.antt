-- What a command of the peer does to the connections of an opened pair (NIC 8246, the control commands).
use Rattle.std.specs.Prelude.{ℕ, Bool, ◌-◌, ◌&&◌, nat_le, if◌then◌else◌, List, [], ◌∷◌, ◌++◌, find, Option, Some, None, is_some}
use Rattle.std.specs.List.{list_any}
use Rattle.interface.specs.Host.{Host}
use Rattle.ncp_control.specs.Allocation as counters
use Rattle.ncp_control.specs.Command.{spelling}
use Rattle.ncp_control.specs.declared.command.Command.{Command}
use Rattle.ncp_control.specs.declared.command.Command.TheVariants as command
use Rattle.host_pairs.specs.Control.{error, ERRONEOUS, NO_SOCKET, NOT_CONNECTED}
use Rattle.host_pairs.specs.Entries.{is_at, entry_at, changed_first, changed_at, sends_on, receives_on, sending_end, receiving_end, refused_end, is_open, is_ending, opening_notices, free_link, cls_of, closed_by_partner}
use Rattle.host_pairs.specs.Desk.{DeskState, command_queued, desk_told, settled, swept, listener_on, without_listener}
use Rattle.host_pairs.specs.declared.listener.Listener.{Listener}
use Rattle.host_pairs.specs.declared.entry.Entry.{Entry}
use Rattle.host_pairs.specs.declared.notice.Notice.TheVariants as notice

-- ---- errors

-- an ERR about a command, of this kind
abbrev pub faulted : ℕ → Command → DeskState → DeskState
faulted code c d = command_queued (error code (spelling c)) d

-- ---- ends

-- the first end that passes is changed
abbrev pub changed : (Entry → Bool) → (Entry → Entry) → DeskState → DeskState
changed test change d = record d { entries = changed_first test change d.entries }

-- ---- requests

-- the peer's request was taken for an end: its place in the log, and what it says of the connection
abbrev pub asked_on_link : ℕ → ℕ → Entry → Entry
asked_on_link stamp link e = record e { partner = Some stamp; link = Some link }

abbrev pub asked_with_size : ℕ → ℕ → Entry → Entry
asked_with_size stamp size e = record e { partner = Some stamp; size = Some size }

-- a new end is after the others
abbrev pub entry_joined : Entry → DeskState → DeskState
entry_joined e d = record d { entries = d.entries ++ e ∷ [] }

-- the socket no longer listens
abbrev pub answered_on : ℕ → DeskState → DeskState
answered_on socket d = record d { listening = without_listener socket d.listening }

-- nobody waits for the request: it is refused by a CLS
abbrev pub refused : ℕ → ℕ → ℕ → DeskState → DeskState
refused own foreign stamp d = command_queued (cls_of (refused_end own foreign stamp)) (entry_joined (refused_end own foreign stamp) d)

-- an end that waits for the request has it now, and may be open by it
abbrev pub matched : Host → ℕ → ℕ → (Entry → Entry) → DeskState → DeskState
matched peer own foreign change d = desk_told (opening_notices peer (entry_at own foreign (changed_at own foreign change d.entries))) (changed (is_at own foreign) change d)

-- an end that already had a request of the peer gets no second one
abbrev pub matched_once : Host → ℕ → ℕ → Command → Entry → (Entry → Entry) → DeskState → DeskState
matched_once peer own foreign c e change d = if is_some e.partner then faulted ERRONEOUS c d else matched peer own foreign change d

-- RTS: the peer will receive, on a link that it names. A socket that listens answers with an STR of the size that it listens with
abbrev pub rts_heard : ℕ → ℕ → ℕ → ℕ → Option Listener → DeskState → DeskState
rts_heard own foreign link stamp None d = refused own foreign stamp d
rts_heard own foreign link stamp (Some l) d =
    command_queued (command.Str own foreign l.size) (entry_joined (asked_on_link stamp link (sending_end own foreign l.size)) (answered_on own d))

abbrev pub rts_taken_by : Host → ℕ → ℕ → ℕ → ℕ → Option Entry → DeskState → DeskState
rts_taken_by peer own foreign link stamp (Some e) d = matched_once peer own foreign (command.Rts foreign own link) e (asked_on_link stamp link) d
rts_taken_by peer own foreign link stamp None d = rts_heard own foreign link stamp (listener_on own d.listening) d

-- a link that a sending end of the pair has is in use, and this comes before all else
abbrev pub rts_taken : Host → ℕ → ℕ → ℕ → ℕ → DeskState → DeskState
rts_taken peer own foreign link stamp d =
    if list_any (sends_on link) d.entries then faulted ERRONEOUS (command.Rts foreign own link) d
    else rts_taken_by peer own foreign link stamp (entry_at own foreign d.entries) d

-- STR: the peer will send, with bytes of a size that it names. A socket that listens answers with an RTS on the lowest free link;
-- without one the request is refused, and the socket keeps listening
abbrev pub str_linked : ℕ → ℕ → ℕ → ℕ → Option ℕ → DeskState → DeskState
str_linked own foreign size stamp None d = refused own foreign stamp d
str_linked own foreign size stamp (Some link) d =
    command_queued (command.Rts own foreign link) (entry_joined (asked_with_size stamp size (receiving_end own foreign link)) (answered_on own d))

abbrev pub str_heard : ℕ → ℕ → ℕ → ℕ → Option Listener → DeskState → DeskState
str_heard own foreign size stamp None d = refused own foreign stamp d
str_heard own foreign size stamp (Some l) d = str_linked own foreign size stamp (free_link d.entries) d

abbrev pub str_taken_by : Host → ℕ → ℕ → ℕ → ℕ → Option Entry → DeskState → DeskState
str_taken_by peer own foreign size stamp (Some e) d = matched_once peer own foreign (command.Str foreign own size) e (asked_with_size stamp size) d
str_taken_by peer own foreign size stamp None d = str_heard own foreign size stamp (listener_on own d.listening) d

abbrev pub str_taken : Host → ℕ → ℕ → ℕ → ℕ → DeskState → DeskState
str_taken peer own foreign size stamp d = str_taken_by peer own foreign size stamp (entry_at own foreign d.entries) d

-- ---- closing

-- the first CLS of the peer for an end; a second one does nothing
abbrev pub closed_once : Host → List ℕ → ℕ → ℕ → Entry → DeskState → DeskState
closed_once peer busy own foreign e d =
    if e.partner_closed then d else swept peer (settled busy (changed (is_at own foreign) closed_by_partner d))

abbrev pub cls_taken_by : Host → List ℕ → ℕ → ℕ → Option Entry → DeskState → DeskState
cls_taken_by peer busy own foreign None d = faulted NO_SOCKET (command.Cls foreign own) d
cls_taken_by peer busy own foreign (Some e) d = closed_once peer busy own foreign e d

abbrev pub cls_taken : Host → List ℕ → ℕ → ℕ → DeskState → DeskState
cls_taken peer busy own foreign d = cls_taken_by peer busy own foreign (entry_at own foreign d.entries) d

-- ---- allocation and interrupts

-- what a command about a link finds: an open end; one that is closing, for which the command does nothing; or none, which is an error
pub data Found : Type 0 where
  Unconnected : Found
  Ending : Found
  Open : (entry : Entry) → Found

abbrev pub found_in : Option Entry → Found
found_in None = Unconnected
found_in (Some e) = if is_open e then Open e else (if is_ending e then Ending else Unconnected)

abbrev pub sender_on : ℕ → DeskState → Found
sender_on link d = found_in (find (sends_on link) d.entries)

abbrev pub receiver_on : ℕ → DeskState → Found
receiver_on link d = found_in (find (receives_on link) d.entries)

abbrev pub at_end : Command → (Entry → DeskState → DeskState) → Found → DeskState → DeskState
at_end c change Unconnected d = faulted NOT_CONNECTED c d
at_end c change Ending d = d
at_end c change (Open e) d = change e d

-- ALL: the receiver grants more
abbrev pub granted : ℕ → ℕ → Entry → Entry
granted messages bits e = record e { allocation = counters.granted e.allocation messages bits }

abbrev pub all_taken : ℕ → ℕ → ℕ → Entry → DeskState → DeskState
all_taken link messages bits e d = changed (sends_on link) (granted messages bits) d

-- GVB: the receiver asks for parts of it back, in 128ths; a RET returns them
abbrev pub given_back : ℕ → ℕ → Entry → Entry
given_back messages bits e = record e { allocation = counters.given_back e.allocation messages bits }

abbrev pub gvb_taken : ℕ → ℕ → ℕ → Entry → DeskState → DeskState
gvb_taken link messages bits e d =
    command_queued (command.Ret link (counters.share e.allocation.messages messages) (counters.share e.allocation.bits bits)) (changed (sends_on link) (given_back messages bits) d)

-- RET: the sender returns a part; more than there is would be an error
abbrev pub returned : ℕ → ℕ → Entry → Entry
returned messages bits e = record e { allocation = record { messages = e.allocation.messages - messages; bits = e.allocation.bits - bits } }

abbrev pub ret_taken : ℕ → ℕ → ℕ → Entry → DeskState → DeskState
ret_taken link messages bits e d =
    if nat_le messages e.allocation.messages && nat_le bits e.allocation.bits
    then desk_told (notice.Returned e.own messages bits ∷ []) (changed (receives_on link) (returned messages bits) d)
    else faulted ERRONEOUS (command.Ret link messages bits) d

-- INR and INS: the other end interrupts
abbrev pub interrupted : Entry → DeskState → DeskState
interrupted e d = desk_told (notice.Interrupt e.own ∷ []) d

-- ---- all commands; RST and RRP do nothing to the connections here

abbrev pub desk_taken : Host → List ℕ → ℕ → Command → DeskState → DeskState
desk_taken peer busy stamp command.Nop d = d
desk_taken peer busy stamp (command.Rts receive send link) d = rts_taken peer send receive link stamp d
desk_taken peer busy stamp (command.Str send receive size) d = str_taken peer receive send size stamp d
desk_taken peer busy stamp (command.Cls own foreign) d = cls_taken peer busy foreign own d
desk_taken peer busy stamp (command.All link messages bits) d = at_end (command.All link messages bits) (all_taken link messages bits) (sender_on link d) d
desk_taken peer busy stamp (command.Gvb link messages bits) d = at_end (command.Gvb link messages bits) (gvb_taken link messages bits) (sender_on link d) d
desk_taken peer busy stamp (command.Ret link messages bits) d = at_end (command.Ret link messages bits) (ret_taken link messages bits) (receiver_on link d) d
desk_taken peer busy stamp (command.Inr link) d = at_end (command.Inr link) interrupted (sender_on link d) d
desk_taken peer busy stamp (command.Ins link) d = at_end (command.Ins link) interrupted (receiver_on link d) d
desk_taken peer busy stamp (command.Eco octet) d = command_queued (command.Erp octet) d
desk_taken peer busy stamp (command.Erp octet) d = desk_told (notice.Echoed peer octet ∷ []) d
desk_taken peer busy stamp (command.Err code detail) d = desk_told (notice.RemoteError peer code detail ∷ []) d
desk_taken peer busy stamp command.Rst d = d
desk_taken peer busy stamp command.Rrp d = d
