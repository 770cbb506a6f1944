-- Two lives of one connection, and what crosses: words for worked examples. A third host is at the first's IMP.
use Rattle.std.specs.Prelude.{ℕ, Bool, true, false, List, [], ◌∷◌, ◌++◌}
use Rattle.bit_messages.specs.Octets.{bits_of}
use Rattle.interface.specs.Host.{Host}
use Rattle.interface.specs.declared.crossing.Answer.{Answer}
use Rattle.interface.specs.declared.crossing.Crossing.{Crossing}
use Rattle.interface.specs.declared.crossing.Crossing.TheVariants as crossing
use Rattle.interface.specs.declared.message.HostMessage.{HostMessage}
use Rattle.host_pairs.specs.Control.{control_text}
use Rattle.promise.specs.Ends.{Course, Dropped, Going, Over, Stopped}
use Rattle.promise.specs.declared.book.Called.{Called}
use Rattle.promise.specs.declared.life.Life.{Life}

abbrev pub first : Host
first = record { imp = 1; host = 0 }

abbrev pub second : Host
second = record { imp = 2; host = 0 }

abbrev pub third : Host
third = record { imp = 1; host = 1 }

abbrev pub message : Host → Host → ℕ → List Bool → HostMessage
message from to link text =
    record { flow = record { source = from; destination = to; link = record { 0 = link } }; text = text }

-- a control message with these octets
abbrev pub control : Host → Host → List ℕ → HostMessage
control from to octets = message from to 0 (control_text octets)

abbrev pub rst : Host → Host → HostMessage
rst from to = control from to (12 ∷ [])

abbrev pub rst_on_one : Crossing
rst_on_one = crossing.Out (message first second 1 (rst first second).text)

abbrev pub told : Answer → Host → Host → Crossing
told kind from to = crossing.Answer kind (message from to 2 []).flow

abbrev pub contact : ℕ → Host → Called
contact place peer = record { host = first; place = place; peer = peer }

-- ---- two lives

-- the first's socket 16 receives from the second's socket 33: the RTS crosses at the places 0 and 1, the STR at 2 and 3
abbrev pub rts : HostMessage
rts = control first second (1 ∷ 0 ∷ 0 ∷ 0 ∷ 16 ∷ 0 ∷ 0 ∷ 0 ∷ 33 ∷ 2 ∷ [])

abbrev pub str : HostMessage
str = control second first (2 ∷ 0 ∷ 0 ∷ 0 ∷ 33 ∷ 0 ∷ 0 ∷ 0 ∷ 16 ∷ 8 ∷ [])

abbrev pub opened : List Crossing
opened = crossing.In str ∷ crossing.Out str ∷ crossing.In rts ∷ crossing.Out rts ∷ []

-- one message with a bit is granted, sent and taken
abbrev pub taker : Life
taker = record {
  host = first;
  socket = 16;
  peer = second;
  foreign = 33;
  own_stamp = 0;
  partner_stamp = 3;
  bits = true ∷ [];
  messages = 1;
  granted = record { messages = 1; bits = 1 };
  returned = record { messages = 0; bits = 0 };
  ended = false;
}

-- one whose requests are the other way round
abbrev pub turned : Life
turned = record taker { own_stamp = 1; partner_stamp = 0 }

abbrev pub giver : Life
giver = record {
  host = second;
  socket = 33;
  peer = first;
  foreign = 16;
  own_stamp = 2;
  partner_stamp = 1;
  bits = true ∷ [];
  messages = 1;
  granted = record { messages = 0; bits = 0 };
  returned = record { messages = 0; bits = 0 };
  ended = false;
}

-- the message with it
abbrev pub one_bit : HostMessage
one_bit = message second first 2 (bits_of (0 ∷ 1 ∷ 0 ∷ 1 ∷ 0 ∷ []) ++ true ∷ [])

-- the message came in at place 4, and its sender's CLS at place 5
abbrev pub closed : List Crossing
closed = crossing.In (control second first (3 ∷ 0 ∷ 0 ∷ 0 ∷ 33 ∷ 0 ∷ 0 ∷ 0 ∷ 16 ∷ [])) ∷ crossing.In one_bit ∷ opened

-- seven messages and nine bits are granted, of which two and three were returned
abbrev pub granter : Life
granter = record taker { granted = record { messages = 7; bits = 9 }; returned = record { messages = 2; bits = 3 } }

-- a life continues, was dropped at place 5, or was stopped there, and an RRP may be owed
abbrev pub goes : Bool → Course
goes owes = record { stage = Going false false; owes = owes; early = false }

abbrev pub dropped : Bool → Course
dropped owes = record (goes owes) { stage = Over Dropped 5 }

abbrev pub stopped : Course
stopped = record (goes false) { stage = Over Stopped 5 }

-- ---- texts

abbrev pub taken : List Bool → Crossing
taken text = crossing.In (message second first 2 text)

-- four texts came in at the places 0 to 3
abbrev pub four_taken : List Crossing
four_taken = taken (true ∷ true ∷ []) ∷ taken (false ∷ []) ∷ taken (true ∷ []) ∷ taken [] ∷ []

-- ---- octets

abbrev pub ten : List ℕ
ten = 1 ∷ 2 ∷ 3 ∷ 4 ∷ 5 ∷ 6 ∷ 7 ∷ 8 ∷ 9 ∷ 10 ∷ []

-- a code and two sockets below 256
abbrev pub with_sockets : ℕ → ℕ → ℕ → List ℕ
with_sockets code own foreign = code ∷ 0 ∷ 0 ∷ 0 ∷ own ∷ 0 ∷ 0 ∷ 0 ∷ foreign ∷ []

-- an STR without a byte size
abbrev pub no_size : List ℕ
no_size = with_sockets 2 33 16 ++ 0 ∷ []
