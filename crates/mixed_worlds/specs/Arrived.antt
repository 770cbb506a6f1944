-- What an open life has, what RFNM of data says, and between which lives data go, among hosts with programs (BBN Report
-- 1822, RFNM; NIC 8246, messages of data and CLS).
use Rattle.std.specs.Prelude.{◌≡◌, ℕ, ◌==◌, Bool, false, true, List, ◌∷◌, ◌++◌, length}
use Rattle.std.specs.List.{Contains}
use Rattle.interface.specs.Host.{Host}
use Rattle.interface.specs.declared.address.Flow.{Flow}
use Rattle.interface.specs.declared.crossing.Answer.TheVariants as answer
use Rattle.interface.specs.declared.crossing.Crossing.{Crossing}
use Rattle.interface.specs.declared.crossing.Crossing.TheVariants as crossing
use Rattle.interface.specs.declared.message.HostMessage.{HostMessage}
use Rattle.promise.specs.Arrived.{HasArrived}
use Rattle.promise.specs.Ends.{Going, stage}
use Rattle.promise.specs.Fates.{IsBeside}
use Rattle.promise.specs.Formed.{CrossedAt, link_of, texts_on}
use Rattle.promise.specs.Safe.{Match, receives}
use Rattle.promise.specs.declared.book.Called.{Called}
use Rattle.promise.specs.declared.life.Fate.{Fate}
use Rattle.promise.specs.declared.life.Fate.TheVariants as fate
use Rattle.promise.specs.declared.life.Life.{Life}
use Rattle.world_keeps_streams.specs.Between.{IsBetween}

-- of lives among these hosts, `all` and `closed` are as in `ArrivedBook`. RFNM of data means that they have arrived
-- where they went from one of these hosts to another: a stranger has no lives
pub record ArrivedAmong (strange : Host → Bool) (contacts : List Called) (log : List Crossing) (lives : List Life)
    (fates : List Fate) : Type 0 where
  pub all : (x : Life) → IsBeside x fate.Open lives fates → receives x ≡ true
      → x.messages ≡ length (texts_on x (link_of log x) log)
  pub closed : (receiver sender : Life) (own : Bool) → IsBeside receiver fate.Open lives fates
      → stage contacts receiver log ≡ Going own true → Contains lives sender → Match log receiver sender
      → (receiver.bits ≡ sender.bits) × (receiver.messages ≡ sender.messages)
  pub answered : (newer older : List Crossing) (f : Flow) → log ≡ newer ++ crossing.Answer answer.Rfnm f ∷ older
      → (f.link.0 == 0) ≡ false → strange f.source ≡ false → strange f.destination ≡ false
      → HasArrived log older lives fates f

-- each message of data that went out of one of these hosts to another goes between two lives
abbrev pub BetweenAmong : (Host → Bool) → List Crossing → List Life → Type 0
BetweenAmong strange log lives =
    (place : ℕ) (m : HostMessage) → CrossedAt place (crossing.Out m) log → (m.flow.link.0 == 0) ≡ false
    → strange m.flow.source ≡ false → strange m.flow.destination ≡ false → IsBetween log lives place m
