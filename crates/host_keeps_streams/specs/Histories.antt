-- All that happens to the ends of a host with one peer while they stay together, and what it is on one link.
use Rattle.std.specs.Prelude.{◌≡◌, ◌⊎◌, ℕ, zero, suc, ◌+◌, ◌*◌, ◌&&◌, not, Bool, true, false, if◌then◌else◌, List, [], ◌∷◌, ◌++◌, find, Some, None, is_some}
use Rattle.interface.specs.Host.{Host}
use Rattle.ncp_control.specs.Command.{IsCommand}
use Rattle.ncp_control.specs.DataHeader.{header_of}
use Rattle.ncp_control.specs.Numbers.{is_receive_socket}
use Rattle.ncp_control.specs.declared.command.Command.{Command}
use Rattle.ncp_control.specs.declared.command.Command.TheVariants as command
use Rattle.stream_law.specs.Receivers as receivers
use Rattle.stream_law.specs.Receivers.{Receiver}
use Rattle.stream_law.specs.Senders as senders
use Rattle.stream_law.specs.Senders.{Sender}
use Rattle.host_pairs.specs.Asked.{closed_end, passes, receiver_requested, requested, with_end, with_more_bits}
use Rattle.host_pairs.specs.Commands.{asked_with_size, granted, desk_taken}
use Rattle.host_pairs.specs.Data.{data_taken}
use Rattle.host_pairs.specs.Desk.{desk_of, settled}
use Rattle.host_pairs.specs.Entries.{called_off, entry_at, free_link, is_busy, is_mine_on, is_open, receives_on, receiving_end, sending_end, was_closed}
use Rattle.host_pairs.specs.Pair.{PairState, opening_pair}
use Rattle.host_pairs.specs.Parcels.{Bytes, asked_at, command_gone, next_of, parcel_gone}
use Rattle.host_pairs.specs.Turn.{freed}
use Rattle.host_pairs.specs.declared.entry.Closing.TheVariants as closing
use Rattle.host_pairs.specs.declared.entry.Entry.{Entry}
use Rattle.ncp_control.specs.declared.phase.Phase.TheVariants as phase
use Rattle.host_pairs.specs.declared.listener.Listener.{Listener}
use Rattle.host_keeps_streams.specs.Closings.{all_received, MayAllReceive, all_sent, MayAllSend}
use Rattle.host_keeps_streams.specs.Formed.{FindsFree, HasSaid}
use Rattle.host_keeps_streams.specs.Moves.{asks_for, bytes_sent, closes, data_received, on_link, received_by, received_out, sent_by, sent_out, told_on}
use Rattle.host_keeps_streams.specs.Names.{named}

-- ---- one thing that happens

pub data Call : Type 0 where
  -- a command of the peer is taken. `said` is the connection in which an ALL, a GVB or a RET was said
  Hears : (stamp said : ℕ) → (command : Command) → Call
  -- data of the peer are taken on a link
  Takes : (link : ℕ) → (text : List Bool) → Call
  -- a command goes out, or bytes of an end
  Says : (stamp : ℕ) → (command : Command) → Call
  Sends : (stamp : ℕ) → (entry : Entry) → (size count : ℕ) → Call
  -- what was sent on a link is answered
  Answered : (link : ℕ) → Call
  -- a user asks for an end; grants, asks back and sends at one; and closes one
  OpensReceiver : (own foreign : ℕ) → Call
  OpensSender : (own foreign size : ℕ) → Call
  Grants : (socket messages bits : ℕ) → (entry : Entry) → Call
  AsksBack : (socket messages bits : ℕ) → (entry : Entry) → Call
  Gives : (socket : ℕ) → (bits : List Bool) → (entry : Entry) → Call
  Closes : (socket : ℕ) → (entry : Entry) → Call

-- it, and what it finds
pub record Moment : Type 0 where
  pub call : Call
  pub pair : PairState
  pub listening : List Listener

-- the ends after it
abbrev pub ends_by : Host → Call → PairState → List Listener → List Entry
ends_by peer (Hears stamp said c) q listening = (desk_taken peer q.busy stamp c (desk_of q listening)).entries
ends_by peer (Takes l text) q listening = (data_taken l text (desk_of q listening)).entries
ends_by peer (Says stamp c) q listening = (command_gone peer stamp c (desk_of q listening)).entries
ends_by peer (Sends stamp e size count) q listening = (parcel_gone peer stamp q.busy (Bytes e size count) (desk_of q listening)).entries
ends_by peer (Answered l) q listening = (settled (freed l q).busy (desk_of q listening)).entries
ends_by peer (OpensReceiver own foreign) q listening = (receiver_requested own foreign (free_link q.entries) q).entries
ends_by peer (OpensSender own foreign size) q listening = (requested (sending_end own foreign size) (command.Str own foreign size) q).entries
ends_by peer (Grants socket messages bits e) q listening = (with_end socket (granted messages bits) q).entries
ends_by peer (AsksBack socket messages bits e) q listening = q.entries
ends_by peer (Gives socket bits e) q listening = (with_end socket (with_more_bits bits) q).entries
ends_by peer (Closes socket e) q listening = (closed_end socket q).entries

abbrev pub ends_after : Host → Moment → List Entry
ends_after peer m = ends_by peer m.call m.pair m.listening

-- ---- what it is on a link

abbrev pub received_at : (ℕ → ℕ → ℕ) → ℕ → Call → PairState → List Listener → List receivers.Move
received_at name link (Hears stamp said c) q listening = received_by name link said c (desk_of q listening)
received_at name link (Takes l text) q listening = data_received link l text (header_of text)
received_at name link (Says stamp c) q listening = received_out name link c q.entries
received_at name link (OpensReceiver own foreign) q listening = asks_for link (name own foreign) (free_link q.entries)
received_at name link (Grants socket messages bits e) q listening = on_link link e (receivers.Grant (named name e) messages bits ∷ [])
received_at name link (AsksBack socket messages bits e) q listening = on_link link e (receivers.AskBack (named name e) messages bits ∷ [])
received_at name link (Closes socket e) q listening = on_link link e (receivers.Close (named name e) ∷ [])
received_at name link c q listening = []

abbrev pub sent_at : (ℕ → ℕ → ℕ) → ℕ → Call → PairState → List Listener → Sender → List senders.Move
sent_at name link (Hears stamp said c) q listening s = sent_by name link said q.busy c (desk_of q listening) s
sent_at name link (Says stamp c) q listening s = sent_out name link c q.entries s
sent_at name link (Sends stamp e size count) q listening s = bytes_sent name link e size count
sent_at name link (Answered l) q listening s = told_on link l ++ closes name (freed l q).busy q.entries
sent_at name link (OpensSender own foreign size) q listening s = senders.Ask (name own foreign) size ∷ []
sent_at name link (Closes socket e) q listening s = closes name q.busy (with_end socket called_off q).entries
sent_at name link c q listening s = []

-- ---- when it may happen

-- a command is read, and an RTS finds the law's link free where it finds the program's free; a CLS that goes out was said; bytes go out next;
-- and a user isn't refused
abbrev pub IsAllowed : ℕ → Call → PairState → Sender → Type 0
IsAllowed link (Hears stamp said c) q s = IsCommand c × FindsFree link c q.entries s
IsAllowed link (Takes l text) q s = Unit {0}
IsAllowed link (Says stamp c) q s = HasSaid c q.entries
IsAllowed link (Sends stamp e size count) q s = next_of q ≡ Some (Bytes e size count)
IsAllowed link (Answered l) q s = Unit {0}
IsAllowed link (OpensReceiver own foreign) q s = (is_receive_socket own ≡ true) × (entry_at own foreign q.entries ≡ None)
IsAllowed link (OpensSender own foreign size) q s = entry_at own foreign q.entries ≡ None
IsAllowed link (Grants socket messages bits e) q s = (find (is_mine_on socket) q.entries ≡ Some e) × (is_receive_socket socket ≡ true) × (is_open e ≡ true) × (passes e.allocation messages bits ≡ false)
IsAllowed link (AsksBack socket messages bits e) q s = (find (is_mine_on socket) q.entries ≡ Some e) × (is_open e ≡ true)
IsAllowed link (Gives socket bits e) q s = (find (is_mine_on socket) q.entries ≡ Some e) × (is_receive_socket socket ≡ false)
IsAllowed link (Closes socket e) q s = (find (is_mine_on socket) q.entries ≡ Some e) × (was_closed e ≡ false)

-- ---- one after another, newest first

-- a stay begins without ends, and each call finds those that the one before left. Between them what waits to go out, what listens and which links are
-- answered may change
abbrev pub ends_now : Host → List Moment → List Entry
ends_now peer [] = []
ends_now peer (m ∷ moments) = ends_after peer m

abbrev pub IsHistory : Host → List Moment → Type 0
IsHistory peer [] = Unit {0}
IsHistory peer (m ∷ moments) = (m.pair.entries ≡ ends_now peer moments) × IsHistory peer moments

-- how many connections of two sockets are gone: one more where they had an end and have none
abbrev pub gone_by : List Entry → List Entry → (ℕ → ℕ → ℕ) → ℕ → ℕ → ℕ
gone_by before after gone own foreign = if is_some (entry_at own foreign before) && not (is_some (entry_at own foreign after)) then suc (gone own foreign) else gone own foreign

abbrev pub gone_now : Host → List Moment → ℕ → ℕ → ℕ
gone_now peer [] own foreign = 0
gone_now peer (m ∷ moments) own foreign = gone_by m.pair.entries (ends_after peer m) (gone_now peer moments) own foreign

-- the number of a connection identifies its sockets, and how many of theirs were gone before it
pub record IsTelling (number : ℕ → ℕ → ℕ → ℕ) : Type 0 where
  pub own : (a b g c d h : ℕ) → number a b g ≡ number c d h → a ≡ c
  pub foreign : (a b g c d h : ℕ) → number a b g ≡ number c d h → b ≡ d
  pub gone : (a b g c d h : ℕ) → number a b g ≡ number c d h → g ≡ h

abbrev pub name_now : (ℕ → ℕ → ℕ → ℕ) → Host → List Moment → ℕ → ℕ → ℕ
name_now number peer moments own foreign = number own foreign (gone_now peer moments own foreign)

-- the law's receiver and sender of a link
abbrev pub receiver_now : (ℕ → ℕ → ℕ → ℕ) → Host → ℕ → List Moment → Receiver
receiver_now number peer link [] = receivers.opening_receiver
receiver_now number peer link (m ∷ moments) = all_received (received_at (name_now number peer moments) link m.call m.pair m.listening) (receiver_now number peer link moments)

abbrev pub sender_now : (ℕ → ℕ → ℕ → ℕ) → Host → ℕ → List Moment → Sender
sender_now number peer link [] = senders.opening_sender
sender_now number peer link (m ∷ moments) =
    all_sent (sent_at (name_now number peer moments) link m.call m.pair m.listening (sender_now number peer link moments)) (sender_now number peer link moments)

abbrev pub AreAllowed : (ℕ → ℕ → ℕ → ℕ) → Host → ℕ → List Moment → Type 0
AreAllowed number peer link [] = Unit {0}
AreAllowed number peer link (m ∷ moments) = IsAllowed link m.call m.pair (sender_now number peer link moments) × AreAllowed number peer link moments

-- ---- what is promised: the law lets both make their moves

abbrev pub MayReceiveAll : (ℕ → ℕ → ℕ → ℕ) → Host → ℕ → List Moment → Type 0
MayReceiveAll number peer link [] = Unit {0}
MayReceiveAll number peer link (m ∷ moments) =
    MayAllReceive (received_at (name_now number peer moments) link m.call m.pair m.listening) (receiver_now number peer link moments) × MayReceiveAll number peer link moments

abbrev pub MaySendAll : (ℕ → ℕ → ℕ → ℕ) → Host → ℕ → List Moment → Type 0
MaySendAll number peer link [] = Unit {0}
MaySendAll number peer link (m ∷ moments) =
    MayAllSend (sent_at (name_now number peer moments) link m.call m.pair m.listening (sender_now number peer link moments)) (sender_now number peer link moments) × MaySendAll number peer link moments

-- ---- whose CLS was first

-- a user closes the end of this connection, which receives on the link
abbrev pub IsClosing : (ℕ → ℕ → ℕ) → ℕ → ℕ → Call → Type 0
IsClosing name link c (Closes socket e) = (receives_on link e ≡ true) × (named name e ≡ c)
IsClosing name link c call = ⊥

-- a user has closed it
abbrev pub HasClosed : (ℕ → ℕ → ℕ → ℕ) → Host → ℕ → ℕ → List Moment → Type 0
HasClosed number peer link c [] = ⊥
HasClosed number peer link c (m ∷ moments) = IsClosing (name_now number peer moments) link c m.call ⊎ HasClosed number peer link c moments

-- ---- one message at a time

-- a message goes out where none is outstanding on the link, and an end that has opened closes where none is
abbrev pub KeepsBox : Bool → senders.Move → Sender → Type 0
KeepsBox outstanding (senders.Send c size bits) s = outstanding ≡ false
KeepsBox outstanding (senders.Close c) s = s.end ≡ Some c → s.opened ≡ true → outstanding ≡ false
KeepsBox outstanding m s = Unit {0}

abbrev pub KeepBox : Bool → List senders.Move → Sender → Type 0
KeepBox outstanding [] s = Unit {0}
KeepBox outstanding (m ∷ moves) s = KeepsBox outstanding m s × KeepBox outstanding moves (senders.moved m s)

-- whether a message is outstanding on a link, where an answer has come before what it leads to
abbrev pub is_out : ℕ → Call → PairState → Bool
is_out link (Answered l) q = is_busy (freed l q).busy link
is_out link c q = is_busy q.busy link

abbrev pub KeepBoxAll : (ℕ → ℕ → ℕ → ℕ) → Host → ℕ → List Moment → Type 0
KeepBoxAll number peer link [] = Unit {0}
KeepBoxAll number peer link (m ∷ moments) =
    KeepBox (is_out link m.call m.pair) (sent_at (name_now number peer moments) link m.call m.pair m.listening (sender_now number peer link moments)) (sender_now number peer link moments) × KeepBoxAll number peer link moments

-- ---- such a number

-- an odd number, doubled this many times
abbrev pub paired : ℕ → ℕ → ℕ
paired zero b = 2 * b + 1
paired (suc a) b = 2 * paired a b

abbrev pub numbered : ℕ → ℕ → ℕ → ℕ
numbered own foreign gone = paired own (paired foreign gone)

-- ---- words for worked examples

-- numbers that identify too little
abbrev pub numbered_by_own : ℕ → ℕ → ℕ → ℕ
numbered_by_own own foreign gone = own

abbrev pub numbered_by_gone : ℕ → ℕ → ℕ → ℕ
numbered_by_gone own foreign gone = gone

abbrev pub moment : Call → List Entry → Moment
moment c entries = record { call = c; pair = record opening_pair { phase = phase.Ready; entries = entries }; listening = [] }

-- an end that receives on socket 16 is asked for and opens; it closes both ways, and it is asked for again
abbrev pub waiting : Entry
waiting = receiving_end 16 33 2

abbrev pub opened_end : Entry
opened_end = asked_with_size 7 8 (asked_at 6 waiting)

abbrev pub opening_moments : List Moment
opening_moments =
    moment (Hears 7 0 (command.Str 33 16 8)) (asked_at 6 waiting ∷ []) ∷ moment (Says 6 (command.Rts 16 33 2)) (waiting ∷ []) ∷ moment (OpensReceiver 16 33) []
    ∷ []

abbrev pub closing_moments : List Moment
closing_moments =
    moment (OpensReceiver 16 33) [] ∷ moment (Hears 9 0 (command.Cls 33 16)) (record opened_end { closing = closing.Sent } ∷ []) ∷ moment (Says 8 (command.Cls 16 33)) (record opened_end { closing = closing.Queued } ∷ [])
    ∷ moment (Closes 16 opened_end) (opened_end ∷ [])
    ∷ opening_moments

-- the same end, closed by its partner
abbrev pub ended_moments : List Moment
ended_moments = moment (Hears 9 0 (command.Cls 33 16)) (opened_end ∷ []) ∷ opening_moments
