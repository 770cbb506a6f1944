-- What the ends on a link do of themselves where they open and close (NIC 8246, RTS, STR and CLS).
use Rattle.std.specs.Prelude.{ℕ, Bool, true, false, List, [], ◌∷◌}
use Rattle.stream_law.specs.Receivers as receivers
use Rattle.stream_law.specs.Receivers.{Receiver}
use Rattle.stream_law.specs.Senders as senders
use Rattle.stream_law.specs.Senders.{Sender}
use Rattle.host_pairs.specs.declared.entry.Closing.{Closing}
use Rattle.host_pairs.specs.declared.entry.Closing.TheVariants as closing

-- moves of the law, the first first
abbrev pub all_received : List receivers.Move → Receiver → Receiver
all_received [] r = r
all_received (m ∷ ms) r = all_received ms (receivers.moved m r)

abbrev pub MayAllReceive : List receivers.Move → Receiver → Type 0
MayAllReceive [] r = Unit {0}
MayAllReceive (m ∷ ms) r = receivers.May m r × MayAllReceive ms (receivers.moved m r)

abbrev pub all_sent : List senders.Move → Sender → Sender
all_sent [] s = s
all_sent (m ∷ ms) s = all_sent ms (senders.moved m s)

abbrev pub MayAllSend : List senders.Move → Sender → Type 0
MayAllSend [] s = Unit {0}
MayAllSend (m ∷ ms) s = senders.May m s × MayAllSend ms (senders.moved m s)

-- a receiving end that heard a CLS closes, if it hasn't, and goes if its own CLS has gone out
abbrev pub received_close : Closing → ℕ → List receivers.Move
received_close closing.No c = receivers.Close c ∷ []
received_close closing.Due c = receivers.Close c ∷ []
received_close closing.Queued c = []
received_close closing.Sent c = receivers.Free c ∷ []

-- one whose CLS goes out is free if it heard one
abbrev pub received_gone : Bool → ℕ → List receivers.Move
received_gone true c = receivers.Free c ∷ []
received_gone false c = []

-- a sending end that has to close does so when it is drained
abbrev pub sent_close : Bool → ℕ → List senders.Move
sent_close true c = senders.Close c ∷ []
sent_close false c = []

-- and so where it heard a CLS, unless it has closed
abbrev pub sent_heard : Closing → Bool → ℕ → List senders.Move
sent_heard closing.No drained c = sent_close drained c
sent_heard closing.Due drained c = sent_close drained c
sent_heard closing.Queued drained c = []
sent_heard closing.Sent drained c = []

-- an end that has one of its two requests opens with the other
abbrev pub received_open : Bool → ℕ → List receivers.Move
received_open true c = receivers.Open c ∷ []
received_open false c = []

abbrev pub sent_open : Bool → ℕ → List senders.Move
sent_open true c = senders.Open c ∷ []
sent_open false c = []
