-- What the messages that went out say of all lives: each is one of a sending life, and of lives on one link one comes after the other (NIC 8246, messages of
-- data). Which messages those of one life are, `Formed` of `promise` says.
use Rattle.std.specs.Prelude.{◌≡◌, ◌⊎◌, ℕ, ◌≤◌, ◌<◌, ◌==◌, max, Bool, false, List, [], ◌∷◌, length, option_map, Option, Some}
use Rattle.std.specs.List.{Contains}
use Rattle.interface.specs.declared.address.Flow.{Flow}
use Rattle.interface.specs.declared.crossing.Crossing.{Crossing}
use Rattle.interface.specs.declared.crossing.Crossing.TheVariants as crossing
use Rattle.interface.specs.declared.message.HostMessage.{HostMessage}
use Rattle.promise.specs.Formed.{CrossedAt, IsFormed, flow_of, link_of, texts_on}
use Rattle.promise.specs.Safe.{before, receives}
use Rattle.promise.specs.declared.life.Amount.{Amount}
use Rattle.promise.specs.declared.life.Life.{Life}

-- ---- sending lives, one after another

-- where the later of a life's requests crossed
abbrev pub begun : Life → ℕ
begun x = max x.own_stamp x.partner_stamp

-- the flow on which a life's data cross
abbrev pub flow_on : List Crossing → Life → Option Flow
flow_on log x = option_map (flow_of x) (link_of log x)

-- the texts on it after both requests, of those that crossed before a place
abbrev pub texts_before : ℕ → List Crossing → Life → List (List Bool)
texts_before place log x = texts_on x (link_of log x) (before place log)

-- two sending lives on one flow
abbrev pub ShareFlow : List Crossing → Life → Life → Type 0
ShareFlow log x y = (receives x ≡ false) × (receives y ≡ false) × (flow_on log x ≡ flow_on log y)

-- of two sending lives on one flow, all messages of the earlier one went out before the later one began, if that has any
abbrev pub IsBefore : List Crossing → Life → Life → Type 0
IsBefore log x y = ShareFlow log x y → (y.messages ≡ 0) ⊎ (x.messages ≤ length (texts_before (begun y) log x))

abbrev pub AreAfter : List Crossing → Life → List Life → Type 0
AreAfter log x [] = Unit {0}
AreAfter log x (y ∷ ys) = IsBefore log x y × AreAfter log x ys

abbrev pub AreApart : List Crossing → List Life → Type 0
AreApart log [] = Unit {0}
AreApart log (x ∷ xs) = AreAfter log x xs × AreApart log xs

-- a message that went out at a place is one of those that a sending life counts
pub record IsSentIn (log : List Crossing) (place : ℕ) (m : HostMessage) (x : Life) : Type 0 where
  pub sending : receives x ≡ false
  pub flow : flow_on log x ≡ Some m.flow
  pub own : x.own_stamp < place
  pub partner : x.partner_stamp < place
  pub counted : length (texts_before place log x) < x.messages

-- ---- all lives

-- each message that went out on another link than 0 is of a sending life, and the messages of an earlier life are before those of a later one: so a sending
-- life has all that went out until the next one began
pub record FirstBook (log : List Crossing) (lives : List Life) : Type 0 where
  pub apart : AreApart log lives
  pub sent : (place : ℕ) (m : HostMessage) → CrossedAt place (crossing.Out m) log → (m.flow.link.0 == 0) ≡ false → (x : Life) × Contains lives x × IsSentIn log place m x

-- whatever else two lives have: if both are made of what crossed, and have the same hosts, sockets, stamps and count of messages, they have the same bits
abbrev pub DetermineBits : Type 0
DetermineBits =
    (log : List Crossing) (x : Life) (bits : List Bool) (granted returned : Amount) (ended : Bool) → IsFormed log x
    → IsFormed log (record x { bits = bits; granted = granted; returned = returned; ended = ended }) → bits ≡ x.bits
