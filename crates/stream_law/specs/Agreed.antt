-- What the two ends of a connection agree on where nothing is in transit between them.
use Rattle.std.specs.Prelude.{◌≡◌, ℕ, ◌+◌, true, List, [], ◌∷◌, length, Some}
use Rattle.stream_law.specs.Words.{All}
use Rattle.stream_law.specs.Receivers as receivers
use Rattle.stream_law.specs.Senders as senders
use Rattle.stream_law.specs.Streams.{Event, Sends, Stream, stream}
use Rattle.stream_law.specs.Within.{message_bits, waiting_in}

-- an ALL that is heard finds the sender's end opened. One that came before would be lost
abbrev pub IsPrompt : Event → Stream → Type 0
IsPrompt (Sends (senders.Hear (All c messages bits))) x = x.sender.opened ≡ true
IsPrompt e x = Unit {0}

abbrev pub ArePrompt : List Event → Type 0
ArePrompt [] = Unit {0}
ArePrompt (e ∷ events) = IsPrompt e (stream events) × ArePrompt events

-- both ends of a connection are open, all that either host said was heard, and no data wait
pub record IsAtRest (x : Stream) (c : ℕ) : Type 0 where
  pub receiver : x.receiver.end ≡ Some c
  pub receives : receivers.is_open c x.receiver ≡ true
  pub sender : x.sender.end ≡ Some c
  pub sends : senders.is_open c x.sender ≡ true
  pub to_sender : x.to_sender ≡ []
  pub to_receiver : x.to_receiver ≡ []
  pub box : waiting_in x.box ≡ []

-- all that was sent was taken, and what may still be sent is what may still be taken: what was granted and neither used nor returned
pub record AreAgreed (x : Stream) (c : ℕ) : Type 0 where
  pub taken : x.receiver.taken c ≡ x.sender.sent c
  pub allocation : x.sender.allocation ≡ x.receiver.allocation
  pub in_messages : length (x.receiver.taken c) + (x.receiver.returned c).messages + x.sender.allocation.messages ≡ (x.receiver.granted c).messages
  pub in_bits : message_bits (x.receiver.taken c) + (x.receiver.returned c).bits + x.sender.allocation.bits ≡ (x.receiver.granted c).bits
