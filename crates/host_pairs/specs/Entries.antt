-- One end of a connection (NIC 8246, connections: RTS, STR and CLS).
use Rattle.std.specs.Prelude.{ℕ, Bool, true, false, not, ◌==◌, ◌&&◌, ◌||◌, if◌then◌else◌, List, [], ◌∷◌, length, find, Option, Some, None, is_some}
use Rattle.std.specs.List.{list_any, range_with_len}
use Rattle.interface.specs.Host.{Host}
use Rattle.ncp_control.specs.Allocation as counters
use Rattle.ncp_control.specs.Numbers.{is_receive_socket}
use Rattle.ncp_control.specs.declared.command.Command.{Command}
use Rattle.ncp_control.specs.declared.command.Command.TheVariants as command
use Rattle.host_pairs.specs.declared.entry.Closing.{Closing}
use Rattle.host_pairs.specs.declared.entry.Closing.TheVariants as closing
use Rattle.host_pairs.specs.declared.entry.Entry.{Entry}
use Rattle.host_pairs.specs.declared.notice.Notice.{Notice}
use Rattle.host_pairs.specs.declared.notice.Notice.TheVariants as notice

-- ---- which end

-- an even own socket receives, an odd one sends
abbrev pub is_receiving : Entry → Bool
is_receiving e = is_receive_socket e.own

-- the end of these two sockets
abbrev pub is_at : ℕ → ℕ → Entry → Bool
is_at own foreign e = e.own == own && e.foreign == foreign

abbrev pub entry_at : ℕ → ℕ → List Entry → Option Entry
entry_at own foreign entries = find (is_at own foreign) entries

-- this host's own end on a socket: one that it opened or listened for
abbrev pub is_mine_on : ℕ → Entry → Bool
is_mine_on socket e = e.mine && e.own == socket

-- a link, where it is known
abbrev pub is_link : ℕ → Option ℕ → Bool
is_link link None = false
is_link link (Some l) = l == link

-- a byte size, where it is known
abbrev pub is_size : ℕ → Option ℕ → Bool
is_size size None = false
is_size size (Some s) = s == size

abbrev pub sends_on : ℕ → Entry → Bool
sends_on link e = not (is_receiving e) && is_link link e.link

abbrev pub receives_on : ℕ → Entry → Bool
receives_on link e = is_receiving e && is_link link e.link

-- the first element that passes is changed
abbrev pub changed_first : {A : Type 0} → (A → Bool) → (A → A) → List A → List A
changed_first test change [] = []
changed_first test change (x ∷ xs) = if test x then change x ∷ xs else x ∷ changed_first test change xs

-- the end of these two sockets is changed
abbrev pub changed_at : ℕ → ℕ → (Entry → Entry) → List Entry → List Entry
changed_at own foreign change entries = changed_first (is_at own foreign) change entries

-- ---- a new end: nothing is asked for, granted or queued on it

abbrev pub new_entry : ℕ → ℕ → Entry
new_entry own foreign = record {
  own = own;
  foreign = foreign;
  mine = true;
  asked = None;
  partner = None;
  closing = closing.No;
  partner_closed = false;
  link = None;
  size = None;
  allocation = counters.nothing;
  bits = [];
}

-- a sending end, with bytes of this size
abbrev pub sending_end : ℕ → ℕ → ℕ → Entry
sending_end own foreign size = record (new_entry own foreign) { size = Some size }

-- a receiving end, on this link
abbrev pub receiving_end : ℕ → ℕ → ℕ → Entry
receiving_end own foreign link = record (new_entry own foreign) { link = Some link }

-- the end of a request of the peer that is refused: it has no link, its CLS waits to go out, and it isn't this host's own
abbrev pub refused_end : ℕ → ℕ → ℕ → Entry
refused_end own foreign stamp = record (new_entry own foreign) { mine = false; partner = Some stamp; closing = closing.Queued }

-- ---- how far it has come

-- its CLS waits to go out, or has gone out
abbrev pub has_cls : Closing → Bool
has_cls closing.No = false
has_cls closing.Due = false
has_cls closing.Queued = true
has_cls closing.Sent = true

abbrev pub is_due : Closing → Bool
is_due closing.Due = true
is_due c = false

abbrev pub is_sent : Closing → Bool
is_sent closing.Sent = true
is_sent c = false

-- it is to be closed, whether or not its CLS is queued
abbrev pub is_called_off : Closing → Bool
is_called_off closing.No = false
is_called_off c = true

-- a CLS was queued or taken
abbrev pub is_ending : Entry → Bool
is_ending e = has_cls e.closing || e.partner_closed

-- its own request has gone out, the partner's was taken, and no CLS was queued or taken
abbrev pub is_open : Entry → Bool
is_open e = is_some e.asked && is_some e.partner && not (is_ending e)

-- it was closed at this end, or at the other
abbrev pub was_closed : Entry → Bool
was_closed e = is_called_off e.closing || e.partner_closed

-- both CLS have passed, and it goes
abbrev pub is_over : Entry → Bool
is_over e = is_sent e.closing && e.partner_closed

-- ---- opening

-- an opening is notified of when it is complete
abbrev pub opening_by : Host → Entry → Option ℕ → Option ℕ → List Notice
opening_by peer e (Some asked) (Some partner) =
    if is_ending e then [] else notice.Opened e.own peer e.foreign asked partner ∷ []
opening_by peer e None partner = []
opening_by peer e (Some asked) None = []

abbrev pub opening_notices : Host → Option Entry → List Notice
opening_notices peer None = []
opening_notices peer (Some e) = opening_by peer e e.asked e.partner

-- the links of connections, 2 to 31
abbrev pub connection_links : List ℕ
connection_links = range_with_len 2 30

-- the lowest link that no receiving end has
abbrev pub free_link : List Entry → Option ℕ
free_link entries = find (λ link. not (list_any (receives_on link) entries)) connection_links

-- ---- closing

-- a message on the link has no answer yet
abbrev pub is_busy : List ℕ → ℕ → Bool
is_busy busy link = list_any (λ l. l == link) busy

abbrev pub is_answered : List ℕ → Option ℕ → Bool
is_answered busy None = true
is_answered busy (Some link) = not (is_busy busy link)

-- all that a sending end has sent is answered, and nothing waits to be sent; a receiving end has nothing to wait for
abbrev pub is_drained : List ℕ → Entry → Bool
is_drained busy e = is_receiving e || length e.bits == 0 && is_answered busy e.link

-- its CLS is queued now
abbrev pub must_close : List ℕ → Entry → Bool
must_close busy e = is_due e.closing && is_drained busy e

abbrev pub closed_when : Bool → Entry → Entry
closed_when now e = record e { closing = if now then closing.Queued else e.closing }

abbrev pub cls_of : Entry → Command
cls_of e = command.Cls e.own e.foreign

-- the partner's CLS was taken: nothing more is sent, and this end closes too
abbrev pub close_due : Closing → Closing
close_due closing.No = closing.Due
close_due c = c

abbrev pub called_off : Entry → Entry
called_off e = record e { closing = close_due e.closing }

abbrev pub closed_by_partner : Entry → Entry
closed_by_partner e = record e { closing = close_due e.closing; partner_closed = true; bits = [] }

-- an end of this host's own is notified of when it goes
abbrev pub ending : Host → Entry → List Notice
ending peer e = if e.mine then notice.Ended e.own peer e.foreign ∷ [] else []
