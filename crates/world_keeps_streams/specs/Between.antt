-- The two lives between which a message of data went (NIC 8246: data are sent in a connection that both ends have).
use Rattle.std.specs.Prelude.{◌≡◌, ℕ, ◌==◌, false, List}
use Rattle.std.specs.List.{Contains}
use Rattle.interface.specs.declared.crossing.Crossing.{Crossing}
use Rattle.interface.specs.declared.crossing.Crossing.TheVariants as crossing
use Rattle.interface.specs.declared.message.HostMessage.{HostMessage}
use Rattle.promise.specs.Arrived.{IsCounted}
use Rattle.promise.specs.Formed.{CrossedAt}
use Rattle.promise.specs.Safe.{Match}
use Rattle.promise.specs.declared.life.Life.{Life}

-- a message that went out at a place is one that a sending life counts, and a receiving life matches that one
pub record IsBetween (log : List Crossing) (lives : List Life) (place : ℕ) (m : HostMessage) : Type 0 where
  pub sender : Life
  pub receiver : Life
  pub there : Contains lives sender
  pub partner : Contains lives receiver
  pub matches : Match log receiver sender
  pub counted : IsCounted log place m sender

-- each message of data that went out, on another link than 0, has these two lives in the book
abbrev pub EachIsBetween : List Crossing → List Life → Type 0
EachIsBetween log lives =
    (place : ℕ) (m : HostMessage) → CrossedAt place (crossing.Out m) log → (m.flow.link.0 == 0) ≡ false
    → IsBetween log lives place m
