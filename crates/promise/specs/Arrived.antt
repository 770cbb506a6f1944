-- What an open life has, and what RFNM of data says to the host that sent them, by what crossed, lives and fates
-- only (BBN Report 1822, RFNM; NIC 8246, messages of data and CLS).
use Rattle.std.specs.Prelude.{◌≡◌, ℕ, ◌<◌, ◌==◌, Bool, false, true, List, ◌∷◌, ◌++◌, length, option_map, Some}
use Rattle.std.specs.List.{Contains}
use Rattle.interface.specs.Messages.{SinceLastOut}
use Rattle.interface.specs.declared.address.Flow.{Flow}
use Rattle.interface.specs.declared.crossing.Answer.TheVariants as answer
use Rattle.interface.specs.declared.crossing.Crossing.{Crossing}
use Rattle.interface.specs.declared.crossing.Crossing.TheVariants as crossing
use Rattle.interface.specs.declared.message.HostMessage.{HostMessage}
use Rattle.promise.specs.Ends.{Going, stage}
use Rattle.promise.specs.Fates.{IsBeside}
use Rattle.promise.specs.Formed.{CrossedAt, flow_of, link_of, texts_on}
use Rattle.promise.specs.Safe.{Match, before, receives, sends}
use Rattle.promise.specs.declared.book.Called.{Called}
use Rattle.promise.specs.declared.life.Fate.{Fate}
use Rattle.promise.specs.declared.life.Fate.TheVariants as fate
use Rattle.promise.specs.declared.life.Life.{Life}

-- a message that crossed at a place is one of those that a life counts, and whose data are its bits: it is on the
-- life's link, after both of its requests, and fewer crossed there before it than the life counts
pub record IsCounted (log : List Crossing) (place : ℕ) (m : HostMessage) (x : Life) : Type 0 where
  pub flow : option_map (flow_of x) (link_of log x) ≡ Some m.flow
  pub own : x.own_stamp < place
  pub partner : x.partner_stamp < place
  pub counted : length (texts_on x (link_of log x) (before place log)) < x.messages

-- a host got RFNM for a flow, when this had crossed before: `older`. The flow's last message out before that is one
-- that a sending life counts. It was taken at a place after that; and the receiving life which the sending one
-- matches counts it there, if it is open
pub record HasArrived (log older : List Crossing) (lives : List Life) (fates : List Fate) (f : Flow) : Type 0 where
  pub out : SinceLastOut f older
  pub sender : Life
  pub there : Contains lives sender
  pub sending : sends sender ≡ true
  pub sent : IsCounted log (length out.before) out.message sender
  pub place : ℕ
  pub after : length out.before < place
  pub taken : CrossedAt place (crossing.In out.message) older
  pub arrived : (receiver : Life) → IsBeside receiver fate.Open lives fates → Match log receiver sender
      → IsCounted log place out.message receiver

-- a receiving life that is open, closed by nobody at its host, counts every message that came in on its link after
-- both of its requests. Once its partner's CLS has come, it has all that the life which it matches sent. And each
-- RFNM of data, on another link than 0, means that they have arrived
pub record ArrivedBook (contacts : List Called) (log : List Crossing) (lives : List Life) (fates : List Fate) : Type 0 where
  pub all : (x : Life) → IsBeside x fate.Open lives fates → receives x ≡ true
      → x.messages ≡ length (texts_on x (link_of log x) log)
  pub closed : (receiver sender : Life) (own : Bool) → IsBeside receiver fate.Open lives fates
      → stage contacts receiver log ≡ Going own true → Contains lives sender → Match log receiver sender
      → (receiver.bits ≡ sender.bits) × (receiver.messages ≡ sender.messages)
  pub answered : (newer older : List Crossing) (f : Flow) → log ≡ newer ++ crossing.Answer answer.Rfnm f ∷ older
      → (f.link.0 == 0) ≡ false → HasArrived log older lives fates f
