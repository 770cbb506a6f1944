-- Which message of its partner each one is that a receiving life counts (NIC 8246, messages of data; BBN Report 1822:
-- one is outstanding on a link).
use Rattle.std.specs.Prelude.{◌≡◌, ℕ, true, List, length, Some}
use Rattle.std.specs.List.{Contains}
use Rattle.interface.specs.declared.crossing.Crossing.{Crossing}
use Rattle.interface.specs.declared.crossing.Crossing.TheVariants as crossing
use Rattle.interface.specs.declared.message.HostMessage.{HostMessage}
use Rattle.promise.specs.Arrived.{IsCounted}
use Rattle.promise.specs.Formed.{CrossedAt, link_of, texts_on}
use Rattle.promise.specs.Safe.{Match, before, last_out, receives}
use Rattle.promise.specs.declared.life.Life.{Life}

-- a message that a receiving life took at a place is the last that had gone out on its flow, and the sending life which
-- it matches counts it. As many of that life's messages went out before it as came in for the receiving one: it is the
-- k-th of both
pub record WasSent (log : List Crossing) (lives : List Life) (place : ℕ) (m : HostMessage)
    (receiver : Life) : Type 0 where
  pub sender : Life
  pub there : Contains lives sender
  pub matches : Match log receiver sender
  pub out : ℕ
  pub last : last_out m.flow (before place log) ≡ Some out
  pub counted : IsCounted log out m sender
  pub nth : length (texts_on sender (link_of log sender) (before out log))
      ≡ length (texts_on receiver (link_of log receiver) (before place log))

-- the k-th message that a receiving life counts went out as the k-th of the sending life that it matches, whatever its
-- bits: no other, none twice, and none left out before it
abbrev pub EachWasSent : List Crossing → List Life → Type 0
EachWasSent log lives =
    (receiver : Life) (place : ℕ) (m : HostMessage) → Contains lives receiver → receives receiver ≡ true
    → CrossedAt place (crossing.In m) log → IsCounted log place m receiver → WasSent log lives place m receiver
