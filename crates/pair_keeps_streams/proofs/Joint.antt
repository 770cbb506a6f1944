-- The two programs of a pair of hosts on one link, each way, beside two runs of the law of streams.
use Rattle.pair_keeps_streams.proofs.Common.{◌≡◌, ℕ, Bool, true, false, List, [], ◌∷◌, ◌++◌, drop, map, None, Some, Host, header_of, data_bits, is_receive_socket, Command, DataHeader, Word, Receiver, Sender, Stream, Box, Empty, Waiting, Taken, Receives, happens, Exact, Inv, receiver_requested, requested, desk_taken, data_of, data_taken, desk_of, settled, entry_at, free_link, is_link, is_receiving, sending_end, PairState, link_of, freed, Entry, Listener, Call, Hears, Takes, Answered, OpensReceiver, OpensSender, Grants, AsksBack, Closes, IsTelling, ends_by, gone_by, named, Holds, name_of, plain, closings_in, said_of, heard_from, receiver_words, sender_words}
use Rattle.ncp_control.specs.Numbers.{is_send_socket}
use Rattle.ncp_control.specs.declared.command.Command.TheVariants as command
use Rattle.stream_law.specs.Receivers as receivers
use Rattle.stream_law.specs.Senders as senders
use Rattle.stream_law.specs.Streams.{Sends}
use Rattle.host_pairs.specs.Asked.{closed_end}

-- ---- what a call queues

-- the queue after a call. What goes out is taken off later, when its message has gone
abbrev pub queue_by : Host → Call → PairState → List Listener → List Command
queue_by peer (Hears stamp said c) q listening = (desk_taken peer q.busy stamp c (desk_of q listening)).queue
queue_by peer (Takes l text) q listening = (data_taken l text (desk_of q listening)).queue
queue_by peer (Answered l) q listening = (settled (freed l q).busy (desk_of q listening)).queue
queue_by peer (OpensReceiver own foreign) q listening = (receiver_requested own foreign (free_link q.entries) q).queue
queue_by peer (OpensSender own foreign size) q listening = (requested (sending_end own foreign size) (command.Str own foreign size) q).queue
queue_by peer (Grants socket messages bits e) q listening = q.queue ++ command.All (link_of e.link) messages bits ∷ []
queue_by peer (AsksBack socket messages bits e) q listening = q.queue ++ command.Gvb (link_of e.link) messages bits ∷ []
queue_by peer (Closes socket e) q listening = (closed_end socket q).queue
queue_by peer c q listening = q.queue

-- requests are of a receiving socket and a sending one, and a user asks back at a receiving one
abbrev pub IsPaired : Command → Type 0
IsPaired (command.Rts receive send link) = (is_receive_socket receive ≡ true) × (is_send_socket send ≡ true)
IsPaired (command.Str send receive size) = (is_receive_socket receive ≡ true) × (is_send_socket send ≡ true)
IsPaired c = Unit {0}

abbrev pub IsPairedCall : Call → Type 0
IsPairedCall (Hears stamp said c) = IsPaired c
IsPairedCall (OpensReceiver own foreign) = (is_receive_socket own ≡ true) × (is_send_socket foreign ≡ true)
IsPairedCall (OpensSender own foreign size) = (is_send_socket own ≡ true) × (is_receive_socket foreign ≡ true)
IsPairedCall (AsksBack socket messages bits e) = is_receive_socket socket ≡ true
IsPairedCall c = Unit {0}

-- a connection was asked for on the link where its receiving end has it, and on no other
abbrev pub AreLinked : (ℕ → ℕ → ℕ) → ℕ → List Entry → Receiver → Type 0
AreLinked name link [] r = Unit {0}
AreLinked name link (e ∷ es) r = (is_receiving e ≡ true → r.asked (named name e) ≡ is_link link e.link) × AreLinked name link es r

-- what a call queues is what its moves say on the link
pub record Speaks (number : ℕ → ℕ → ℕ → ℕ) (link : ℕ) (gone : ℕ → ℕ → ℕ) (peer : Host) (k : Call) (q : PairState) (listening : List Listener) (asked : ℕ → Bool) (receiver_said sender_said : List Word) : Type 0 where
  pub new : List Command
  pub queue : queue_by peer k q listening ≡ q.queue ++ new
  pub counts : (own foreign : ℕ) → said_of (gone_by q.entries (ends_by peer k q listening) gone) (ends_by peer k q listening) own foreign ≡ closings_in new (said_of gone q.entries) own foreign
  pub received : map plain receiver_said ≡ receiver_words number link asked (said_of gone q.entries) new
  pub sent : map plain sender_said ≡ sender_words number link (said_of gone q.entries) new

-- ---- what a host hears is the first of its kind

-- a request finds no end, or one that has heard neither a request nor a CLS; a CLS finds an end that has heard none
abbrev pub IsFirst : Command → List Entry → Type 0
IsFirst (command.Rts receive send link) es = (e : Entry) → entry_at send receive es ≡ Some e → (e.partner ≡ None) × (e.partner_closed ≡ false)
IsFirst (command.Str send receive size) es = (e : Entry) → entry_at receive send es ≡ Some e → (e.partner ≡ None) × (e.partner_closed ≡ false)
IsFirst (command.Cls foreign own) es = (e : Entry) × (entry_at own foreign es ≡ Some e) × (e.partner_closed ≡ false)
IsFirst c es = Unit {0}

-- ---- the two

-- a message of data on the link: none is outstanding, or it lies there, or it was fetched and isn't answered
pub data Post : Type 0 where
  Free : Post
  Lies : (text : List Bool) → Post
  Fetched : Post

-- one of the two: whether it stays since both met, how many connections are gone for it, its ends, what it has said and the other hasn't heard,
-- and its data on the link
pub record Party : Type 0 where
  pub stays : Bool
  pub gone : ℕ → ℕ → ℕ
  pub entries : List Entry
  pub pending : List Command
  pub post : Post

abbrev pub heard_by : Party → ℕ → ℕ → ℕ
heard_by p = heard_from p.gone p.entries

abbrev pub said_by : Party → ℕ → ℕ → ℕ
said_by p = said_of p.gone p.entries

-- a host's ends with the other are the law's, of the stream that it receives and of that which it sends
pub record Half (number : ℕ → ℕ → ℕ → ℕ) (tells : IsTelling number) (link : ℕ) (r : Receiver) (s : Sender) (p : Party) : Type 0 where
  pub holds : Holds number tells link p.gone p.entries r s
  pub linked : AreLinked (name_of number p.gone) link p.entries r

-- what one has said and the other hasn't heard, as words of the stream that the speaker receives and of that which it sends
pub record Line (number : ℕ → ℕ → ℕ → ℕ) (link : ℕ) (heard : ℕ → ℕ → ℕ) (pending : List Command) (asked : ℕ → Bool) (to_sender to_receiver : List Word) : Type 0 where
  pub received : map plain to_sender ≡ receiver_words number link asked heard pending
  pub sent : map plain to_receiver ≡ sender_words number link heard pending

abbrev pub IsPosted : Post → Box → Type 0
IsPosted Free Empty = Unit {0}
IsPosted (Lies text) (Waiting c size bits) = (h : DataHeader) × (header_of text ≡ Some h) × (h.size ≡ size) × (data_of (data_bits h) text ≡ bits) × (drop 40 text ≡ bits)
IsPosted Fetched Taken = Unit {0}
IsPosted post box = ⊥

-- while its sender stays the box of a stream is that on the link; afterwards so much is still so that what lies there waits
pub record IsBox (sender receiver : Party) (box : Box) : Type 0 where
  pub whole : sender.stays ≡ true → IsPosted sender.post box
  pub left : sender.stays ≡ false → receiver.stays ≡ true → (text : List Bool) → sender.post ≡ Lies text → IsPosted (Lies text) box

-- `a` receives in `x` and sends in `y`; `b` the other way. Their numbers of connections are the same, though each names its own socket first
pub record Joint (number other : ℕ → ℕ → ℕ → ℕ) (tells : IsTelling number) (others : IsTelling other) (link : ℕ) (x y : Stream) (a b : Party) : Type 0 where
  pub inv_x : Inv x
  pub inv_y : Inv y
  -- while both stay nothing that was granted is lost
  pub exact_x : a.stays ≡ true → b.stays ≡ true → Exact true x
  pub exact_y : a.stays ≡ true → b.stays ≡ true → Exact true y
  pub mine : a.stays ≡ true → Half number tells link x.receiver y.sender a
  pub theirs : b.stays ≡ true → Half other others link y.receiver x.sender b
  pub to_b : b.stays ≡ true → Line number link (heard_by b) a.pending x.receiver.asked x.to_sender y.to_receiver
  pub to_a : a.stays ≡ true → Line other link (heard_by a) b.pending y.receiver.asked y.to_sender x.to_receiver
  pub told_b : a.stays ≡ true → b.stays ≡ true → (own foreign : ℕ) → said_by a own foreign ≡ closings_in a.pending (heard_by b) own foreign
  pub told_a : a.stays ≡ true → b.stays ≡ true → (own foreign : ℕ) → said_by b own foreign ≡ closings_in b.pending (heard_by a) own foreign
  pub box_x : IsBox b a x.box
  pub box_y : IsBox a b y.box

-- ---- moves upon a stream, the first first

abbrev pub receives : List receivers.Move → Stream → Stream
receives [] x = x
receives (m ∷ ms) x = receives ms (happens (Receives m) x)

abbrev pub sends : List senders.Move → Stream → Stream
sends [] x = x
sends (m ∷ ms) x = sends ms (happens (Sends m) x)
