-- What came in for a receiving life before its end took the partner's CLS, whether its host took it or dropped it (NIC 8246, CLS).
use Rattle.std.specs.Prelude.{◌≡◌, ℕ, false, true, List, ◌++◌, length, Some}
use Rattle.std.specs.List.{Contains}
use Rattle.interface.specs.declared.crossing.Crossing.{Crossing}
use Rattle.promise.specs.Safe.{Match, receives}
use Rattle.net_sim.specs.Story.{Moment, program}
use Rattle.net_sim.specs.Timeline.{crossings_of}
use Rattle.net_sim.specs.Told.{kept_in}
use Rattle.promise.specs.declared.life.Life.{Life}
use Rattle.promise.specs.Formed.{texts_for}
use Rattle.world_keeps_lives.specs.Lives.{HasOpenEnd}

-- a receiving life isn't over, and its end has taken the partner's CLS. A user of its host may have closed it too
pub record HasTakenCls (moments : List Moment) (receiver : Life) : Type 0 where
  pub there : Contains (kept_in moments).book.lives receiver
  pub receiving : receives receiver ≡ true
  pub goes : receiver.ended ≡ false
  pub end : HasOpenEnd (program receiver.host moments) receiver
  pub closed : end.end.partner_closed ≡ true
  pub link : ℕ
  pub linked : end.end.link ≡ Some link

-- at some moment up to now it was so of a life, as that was then
pub record HadTakenCls (moments : List Moment) (receiver : Life) : Type 0 where
  pub later : List Moment
  pub earlier : List Moment
  pub is : moments ≡ later ++ earlier
  pub then : HasTakenCls earlier receiver

-- as many messages had come in on its link `before`, after both its requests, as the life that it matches has sent. Where any came there is such a life
pub record CameAll (before log : List Crossing) (lives : List Life) (receiver : Life) (link : ℕ) : Type 0 where
  pub all : (sender : Life) → Contains lives sender → Match log receiver sender → sender.messages ≡ length (texts_for receiver link before)
  pub source : (length (texts_for receiver link before) ≡ 0 → ⊥) → (sender : Life) × Contains lives sender × Match log receiver sender

-- so it is at every moment: of what had come in when the CLS was taken, and of lives as they are since
abbrev pub AllCame : List Moment → Type 0
AllCame moments =
    (later earlier : List Moment) → moments ≡ later ++ earlier → (receiver : Life) → (taken : HadTakenCls earlier receiver)
    → CameAll (crossings_of taken.earlier) (crossings_of earlier) (kept_in earlier).book.lives receiver taken.then.link
