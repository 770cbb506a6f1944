-- What becomes of data that a host takes (BBN Report 1822, RFNM; NIC 8246, messages of data).
use Rattle.std.specs.Prelude.{◌≡◌, ◌⊎◌, ℕ, ◌==◌, false, true, List, [], ◌∷◌, ◌++◌, drop, Some}
use Rattle.std.specs.List.{Contains}
use Rattle.interface.specs.declared.crossing.Crossing.TheVariants as crossing
use Rattle.interface.specs.declared.message.HostMessage.{HostMessage}
use Rattle.host_pairs.specs.Entries.{is_open}
use Rattle.host_pairs.specs.declared.notice.Notice.TheVariants as notice
use Rattle.host_keeps_streams.specs.Histories.{HasClosed, name_now, numbered}
use Rattle.promise.specs.Safe.{Match, receives}
use Rattle.net_sim.specs.Story.{Moment, Crossed, program}
use Rattle.net_sim.specs.Timeline.{crossings_of}
use Rattle.net_sim.specs.Told.{kept_in, notices_by}
use Rattle.promise.specs.declared.life.Life.{Life}
use Rattle.world_keeps_lives.specs.Lives.{HasOpenEnd}
use Rattle.world_keeps_streams.specs.Calls.{own_calls}

-- no user of its host has closed the end of a receiving life, which has this link
abbrev pub IsUnclosed : ℕ → List Moment → Life → Type 0
IsUnclosed link moments receiver =
    HasClosed numbered receiver.peer link (name_now numbered receiver.peer (own_calls receiver.host receiver.peer moments) receiver.socket receiver.foreign)
    (own_calls receiver.host receiver.peer moments)
    → ⊥

-- a message of data comes from the peer of a receiving life that isn't over. The life's end has the message's link, and it is open, or at least no user of
-- its host has closed it
pub record ComesFor (m : HostMessage) (moments : List Moment) (receiver : Life) : Type 0 where
  pub there : Contains (kept_in moments).book.lives receiver
  pub receiving : receives receiver ≡ true
  pub goes : receiver.ended ≡ false
  pub host : receiver.host ≡ m.flow.destination
  pub peer : receiver.peer ≡ m.flow.source
  pub end : HasOpenEnd (program receiver.host moments) receiver
  pub link : end.end.link ≡ Some m.flow.link.0
  pub unclosed : (is_open end.end ≡ true) ⊎ IsUnclosed m.flow.link.0 moments receiver
  pub off_control : (m.flow.link.0 == 0) ≡ false

-- a message of data comes from the host of a sending life to its peer, on the link of the life's end. Neither that life nor the receiving one which it
-- matches is over, and the receiver's end is open, or at least no user of its host has closed it
pub record ComesBetween (m : HostMessage) (moments : List Moment) (receiver sender : Life) : Type 0 where
  pub there : Contains (kept_in moments).book.lives receiver
  pub sender_there : Contains (kept_in moments).book.lives sender
  pub matches : Match (crossings_of moments) receiver sender
  pub goes : receiver.ended ≡ false
  pub sender_goes : sender.ended ≡ false
  pub host : sender.host ≡ m.flow.source
  pub peer : sender.peer ≡ m.flow.destination
  pub giver : HasOpenEnd (program sender.host moments) sender
  pub linked : giver.end.link ≡ Some m.flow.link.0
  pub end : HasOpenEnd (program receiver.host moments) receiver
  pub unclosed : (is_open end.end ≡ true) ⊎ IsUnclosed m.flow.link.0 moments receiver

-- where it is taken its user is notified of all its data, which are after the 40 bits of its header, and of nothing else
abbrev pub Arrives : HostMessage → List Moment → Life → Type 0
Arrives m moments receiver = notices_by (Crossed (crossing.In m)) moments ≡ notice.Arrived receiver.socket (drop 40 m.text) ∷ []

-- each message that was taken where it came for such a life arrived there
abbrev pub AllArrive : List Moment → Type 0
AllArrive moments =
    (m : HostMessage) (later earlier : List Moment) → moments ≡ later ++ Crossed (crossing.In m) ∷ earlier → (receiver : Life) → ComesFor m earlier receiver
    → Arrives m earlier receiver

-- and each that comes between two lives comes for the receiving one
abbrev pub AllCome : List Moment → Type 0
AllCome moments =
    (m : HostMessage) (later earlier : List Moment) → moments ≡ later ++ Crossed (crossing.In m) ∷ earlier → (receiver sender : Life) → ComesBetween m earlier receiver sender
    → ComesFor m earlier receiver
