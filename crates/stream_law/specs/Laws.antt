-- The laws of src/ that are longer than a line: each is a record, and its fields are the clauses.
use Rattle.std.specs.Prelude.{◌++◌, ◌∷◌, ◌≡◌, [], Bool, false, length, List, None, Some, true, ℕ}
use Rattle.ncp_control.specs.Allocation as counters
use Rattle.stream_law.specs.Agreed.{AreAgreed, ArePrompt, IsAtRest}
use Rattle.stream_law.specs.Example.{closed_events, ended_events, next, opened_events, quit_events, returned_events}
use Rattle.stream_law.specs.Example.{sent_events, taken_events, two}
use Rattle.stream_law.specs.Receivers as receivers
use Rattle.stream_law.specs.Senders as senders
use Rattle.stream_law.specs.Streams.{Event, IsRun, Receives, Sends, stream, Taken, Waiting}
use Rattle.stream_law.specs.Within.{IsSafe, NothingLeft, waiting_in}
use Rattle.stream_law.specs.Words.{All, Cls, Gvb, Ret, Rts}

-- Whatever the two hosts of a link do while they stay together, connection after connection. What is assumed of them is
-- in `IsRun`: their own rules, and that what one said is heard in order.
pub record Streams : Type 0 where
  -- in each connection what was taken is a prefix of what was sent, and all of it where the sender's CLS was heard and
  -- the own wasn't said before. What was taken and what was returned are granted, and so are what was sent and what was
  -- returned
  pub safe : (events : List Event) (c : ℕ) → IsRun events → IsSafe (stream events) c
  -- where the link is asked for, nothing of a connection before is left over
  pub fresh : (events : List Event) (c : ℕ) → IsRun (Receives (receivers.Ask c) ∷ events) → NothingLeft (stream events)
  -- what waits for an end that doesn't close is taken by it: it is open, the byte size is the one that it learnt, and
  -- it granted as much
  pub accepted :
      (events : List Event) (c size : ℕ) (bits : List Bool) → IsRun (Receives (receivers.Take size bits) ∷ events) →
      (stream events).receiver.end ≡ Some c → (stream events).receiver.closed ≡ false →
      (stream events).receiver.over c ≡ false →
      (stream (Receives (receivers.Take size bits) ∷ events)).receiver.taken c
      ≡ (stream events).receiver.taken c ++ bits ∷ []
  -- an end that doesn't close has taken all that was sent, except for what waits
  pub caught_up :
      (events : List Event) (c : ℕ) → IsRun events → (stream events).receiver.end ≡ Some c →
      (stream events).receiver.closed ≡ false → (stream events).receiver.over c ≡ false →
      (stream events).sender.sent c ≡ (stream events).receiver.taken c ++ waiting_in (stream events).box
  -- once a receiver has heard the sender's CLS, all messages that were sent in the connection have come, whether it
  -- took them or dropped them
  pub came :
      (events : List Event) (c : ℕ) → IsRun events → (stream events).receiver.over c ≡ true →
      length ((stream events).sender.sent c) ≡ (stream events).receiver.came c
  -- where nothing is in transit the two open ends of a connection agree, if no ALL was heard before the sender's end
  -- opened
  pub agreed :
      (events : List Event) (c : ℕ) → IsRun events → ArePrompt events → IsAtRest (stream events) c →
      AreAgreed (stream events) c

-- Data, ALL, GVB and RET name the link only. Whoever takes one has on that link the end of the connection in which it
-- was said.
pub record Owners : Type 0 where
  -- whoever takes data, a return, a grant or what is asked back has the end of the connection in which it was said
  pub «data» :
      (events : List Event) (c size size_told : ℕ) (bits told : List Bool) →
      IsRun (Receives (receivers.Take size_told told) ∷ events) → (stream events).box ≡ Waiting c size bits →
      (stream events).receiver.end ≡ Some c
  pub returned :
      (events : List Event) (c messages bits : ℕ) → IsRun (Receives (receivers.Hear (Ret c messages bits)) ∷ events) →
      (stream events).receiver.end ≡ Some c
  pub granted :
      (events : List Event) (c messages bits : ℕ) → IsRun (Sends (senders.Hear (All c messages bits)) ∷ events) →
      (stream events).sender.end ≡ Some c
  pub asked_back :
      (events : List Event) (c messages bits : ℕ) → IsRun (Sends (senders.Hear (Gvb c messages bits)) ∷ events) →
      (stream events).sender.end ≡ Some c
  -- a request finds the link free: it is never refused for it
  pub asked :
      (events : List Event) (c : ℕ) → IsRun (Sends (senders.Hear (Rts c)) ∷ events) → (stream events).sender.end ≡ None

-- A stream from its request to its end, and the next one on its link.
pub record WorkedStream : Type 0 where
  -- both ends are of connection 1, and open
  pub opened :
      ((stream opened_events).receiver.end ≡ Some 1) × ((stream opened_events).sender.end ≡ Some 1) ×
      (receivers.is_open 1 (stream opened_events).receiver ≡ true) ×
      (senders.is_open 1 (stream opened_events).sender ≡ true)
  -- a message of two bits waits; it costs the sender one of two messages and two of ten bits, and the receiver as much
  -- when it is taken
  pub sent :
      ((stream sent_events).box ≡ Waiting 1 1 two) ×
      ((stream sent_events).sender.allocation ≡ record { messages = 1; bits = 8 }) ×
      ((stream sent_events).receiver.allocation ≡ record { messages = 2; bits = 10 })
  pub taken :
      ((stream taken_events).receiver.taken 1 ≡ two ∷ []) × ((stream taken_events).sender.sent 1 ≡ two ∷ []) ×
      ((stream taken_events).receiver.allocation ≡ record { messages = 1; bits = 8 }) ×
      ((stream taken_events).box ≡ Taken)
  -- half of one message is none, half of eight bits is four; what was granted meanwhile is in transit
  pub returned :
      ((stream returned_events).receiver.returned 1 ≡ record { messages = 0; bits = 4 }) ×
      ((stream returned_events).receiver.granted 1 ≡ record { messages = 3; bits = 13 }) ×
      ((stream returned_events).receiver.allocation ≡ record { messages = 2; bits = 7 })
  pub left :
      ((stream returned_events).sender.allocation ≡ record { messages = 1; bits = 4 }) ×
      ((stream returned_events).to_sender ≡ All 1 1 3 ∷ [])
  -- the link is free at the receiver, and the sender hasn't heard of it yet
  pub closed :
      ((stream closed_events).receiver.end ≡ None) × ((stream closed_events).sender.end ≡ Some 1) ×
      ((stream closed_events).to_sender ≡ All 1 1 3 ∷ Cls 1 ∷ [])
  -- the sender's CLS came first, so all that was sent was taken. A receiver that closes before has lost what waited
  pub settled :
      ((stream ended_events).receiver.first 1 ≡ false) × ((stream ended_events).receiver.over 1 ≡ true) ×
      ((stream ended_events).receiver.taken 1 ≡ (stream ended_events).sender.sent 1)
  pub quit : ((stream quit_events).receiver.first 1 ≡ true) × ((stream quit_events).receiver.over 1 ≡ true)
  -- one message came to a receiver that took it, and to one that had closed and dropped it; none while it waits, nor in
  -- another connection
  pub quit_came :
      ((stream quit_events).receiver.came 1 ≡ 1) × ((stream ended_events).receiver.came 1 ≡ 1) ×
      ((stream sent_events).receiver.came 1 ≡ 0) × ((stream quit_events).receiver.came 2 ≡ 0)
  pub quit_drops : (stream quit_events).receiver.taken 1 ≡ (stream quit_events).sender.sent 1 → ⊥
  -- the late grant is nobody's, and the next end doesn't open, since it was closed before its request was heard
  pub next :
      ((stream next).sender.end ≡ Some 2) × ((stream next).sender.allocation ≡ counters.nothing) ×
      (senders.is_open 2 (stream next).sender ≡ false)
