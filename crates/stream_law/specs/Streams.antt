-- The two hosts of a link in one stay, and what is in transit between them.
use Rattle.std.specs.Prelude.{◌≡◌, ℕ, Bool, true, List, [], ◌∷◌, ◌++◌, Option, Some, None}
use Rattle.stream_law.specs.Words.{Word}
use Rattle.stream_law.specs.Receivers as receivers
use Rattle.stream_law.specs.Receivers.{Receiver}
use Rattle.stream_law.specs.Senders as senders
use Rattle.stream_law.specs.Senders.{Sender}

-- the mailbox of the link (BBN Report 1822: one message outstanding on a link): a message waits there until it is taken, and is outstanding
-- until its sender gets the answer. A message of data has a byte size and its bits. The number is that of the connection in which it was sent, and
-- its receiver doesn't look at it
pub data Box : Type 0 where
  Empty : Box
  Waiting : (connection size : ℕ) → (bits : List Bool) → Box
  Taken : Box

-- what each said and the other hasn't heard, the oldest first: it waits to go out, or is in transit
pub record Stream : Type 0 where
  pub receiver : Receiver
  pub sender : Sender
  pub to_sender : List Word
  pub to_receiver : List Word
  pub box : Box

-- where both have met
abbrev pub opening_stream : Stream
opening_stream = record { receiver = receivers.opening_receiver; sender = senders.opening_sender; to_sender = []; to_receiver = []; box = Empty }

-- a host that leaves does nothing more
pub data Event : Type 0 where
  Receives : (move : receivers.Move) → Event
  Sends : (move : senders.Move) → Event

-- ---- what is in transit

abbrev pub word_queued : Option Word → List Word → List Word
word_queued None words = words
word_queued (Some w) words = words ++ w ∷ []

abbrev pub behind : List Word → List Word
behind [] = []
behind (w ∷ words) = words

abbrev pub unheard : receivers.Move → List Word → List Word
unheard (receivers.Hear w) words = behind words
unheard m words = words

abbrev pub unheard_by_sender : senders.Move → List Word → List Word
unheard_by_sender (senders.Hear w) words = behind words
unheard_by_sender m words = words

abbrev pub box_taken : receivers.Move → Box → Box
box_taken (receivers.Take size bits) box = Taken
box_taken m box = box

abbrev pub box_sent : senders.Move → Box → Box
box_sent (senders.Send c size bits) box = Waiting c size bits
box_sent senders.Told box = Empty
box_sent m box = box

abbrev pub happens : Event → Stream → Stream
happens (Receives m) x = record {
  receiver = receivers.moved m x.receiver;
  sender = x.sender;
  to_sender = word_queued (receivers.says m) x.to_sender;
  to_receiver = unheard m x.to_receiver;
  box = box_taken m x.box;
}
happens (Sends m) x = record {
  receiver = x.receiver;
  sender = senders.moved m x.sender;
  to_sender = unheard_by_sender m x.to_sender;
  to_receiver = word_queued (senders.says m x.sender) x.to_receiver;
  box = box_sent m x.box;
}

-- ---- what may happen

-- only the oldest of what was said is heard, and only what waits is taken. A message goes out, and an end that has opened is closed, only while
-- none is outstanding
abbrev pub MayReceive : receivers.Move → Stream → Type 0
MayReceive (receivers.Hear w) x = (rest : List Word) × (x.to_receiver ≡ w ∷ rest)
MayReceive (receivers.Take size bits) x = (c : ℕ) × (x.box ≡ Waiting c size bits)
MayReceive m x = Unit {0}

abbrev pub MaySend : senders.Move → Stream → Type 0
MaySend (senders.Hear w) x = (rest : List Word) × (x.to_sender ≡ w ∷ rest)
MaySend (senders.Send c size bits) x = x.box ≡ Empty
MaySend (senders.Close c) x = x.sender.end ≡ Some c → x.sender.opened ≡ true → x.box ≡ Empty
MaySend senders.Told x = x.box ≡ Taken
MaySend m x = Unit {0}

abbrev pub MayHappen : Event → Stream → Type 0
MayHappen (Receives m) x = receivers.May m x.receiver × MayReceive m x
MayHappen (Sends m) x = senders.May m x.sender × MaySend m x

-- the two hosts after a list of events, newest first
abbrev pub stream : List Event → Stream
stream [] = opening_stream
stream (e ∷ events) = happens e (stream events)

abbrev pub IsRun : List Event → Type 0
IsRun [] = Unit {0}
IsRun (e ∷ events) = MayHappen e (stream events) × IsRun events
