-- What is promised of streams.
use Rattle.std.specs.Prelude.{◌≡◌, ℕ, ◌+◌, ◌≤◌, Bool, true, false, List, [], ◌∷◌, ◌++◌, length, Some}
use Rattle.ncp_control.specs.declared.allocation.Allocation.{Allocation}
use Rattle.stream_law.specs.Words.{Word, Ret}
use Rattle.stream_law.specs.Streams.{Stream, Box, Empty, Waiting, Taken}

-- these messages are the first of those
abbrev pub IsPrefix : List (List Bool) → List (List Bool) → Type 0
IsPrefix xs ys = (rest : List (List Bool)) × (xs ++ rest ≡ ys)

-- the bits of messages
abbrev pub message_bits : List (List Bool) → ℕ
message_bits [] = 0
message_bits (m ∷ messages) = length m + message_bits messages

-- these messages, with what was returned, are no more than what was granted
pub record AreGranted (messages : List (List Bool)) (returned granted : Allocation) : Type 0 where
  pub in_messages : length messages + returned.messages ≤ granted.messages
  pub in_bits : message_bits messages + returned.bits ≤ granted.bits

-- the messages that wait in a mailbox
abbrev pub waiting_in : Box → List (List Bool)
waiting_in Empty = []
waiting_in (Waiting c size bits) = bits ∷ []
waiting_in Taken = []

-- of each connection: what was taken is a prefix of what was sent, and all of it once the receiver has heard the sender's CLS without having
-- said its own before; and both are granted
pub record IsSafe (x : Stream) (c : ℕ) : Type 0 where
  pub front : IsPrefix (x.receiver.taken c) (x.sender.sent c)
  pub whole : x.receiver.over c ≡ true → x.receiver.first c ≡ false → x.receiver.taken c ≡ x.sender.sent c
  pub taken : AreGranted (x.receiver.taken c) (x.receiver.returned c) (x.receiver.granted c)
  pub sent : AreGranted (x.sender.sent c) (x.receiver.returned c) (x.receiver.granted c)

-- ---- nothing is left over

abbrev pub NoneReturned : List Word → Type 0
NoneReturned [] = Unit {0}
NoneReturned (Ret c messages bits ∷ words) = ⊥
NoneReturned (w ∷ words) = NoneReturned words

-- nothing that could be taken for another connection's is in transit: no data wait, nothing is being returned, and no end sends on the link any more
pub record NothingLeft (x : Stream) : Type 0 where
  pub data_none : (c size : ℕ) (bits : List Bool) → x.box ≡ Waiting c size bits → ⊥
  pub returned_none : NoneReturned x.to_receiver
  pub sender_closed : (c : ℕ) → x.sender.end ≡ Some c → x.sender.closed c ≡ true
