-- Lives, each with its link beside it: by these the laws of lives are proved from one moment to the next.
use Rattle.world_keeps_lives.proofs.Common.{Contains, Crossing, HostMessage, before, receives, Life, begun, AreOurs, Network}
use Rattle.std.proofs.Common.{◌≡◌, ◌⊎◌, ℕ, ◌≤◌, ◌<◌, ◌==◌, Bool, false, if◌then◌else◌, List, [], ◌∷◌, map, take, length, Option, Some}
use Rattle.promise.specs.Formed.{CrossedAt, HasCrossed, coming, data_in, going, joined, request, texts_for, flow_of}
use Rattle.interface.specs.declared.crossing.Crossing.TheVariants as crossing

-- a life with its link
pub record Linked : Type 0 where
  pub life : Life
  pub link : ℕ

-- both requests of a life crossed, and the RTS of the two names this link
pub record HasRequests (log : List Crossing) (p : Linked) : Type 0 where
  pub size : ℕ
  pub own : HasCrossed going p.life.host p.life.peer p.life.own_stamp (request p.life.socket p.life.foreign (if receives p.life then p.link else size)) log
  pub partner : HasCrossed coming p.life.peer p.life.host p.life.partner_stamp (request p.life.foreign p.life.socket (if receives p.life then size else p.link)) log

abbrev pub all_data : Bool → List (List Bool) → Option (List Bool)
all_data comes [] = Some []
all_data comes (text ∷ texts) = joined (data_in comes text) (all_data comes texts)

-- and its bits are the data of the first messages there, as many as it counts
pub record IsFirst (log : List Crossing) (p : Linked) : Type 0 where
  pub asked : HasRequests log p
  pub enough : p.life.messages ≤ length (texts_for p.life p.link log)
  pub bits : all_data (receives p.life) (take p.life.messages (texts_for p.life p.link log)) ≡ Some p.life.bits

-- of two sending lives on one flow, all messages of the earlier one went out before the later one began, if that has any
abbrev pub IsBefore : List Crossing → Linked → Linked → Type 0
IsBefore log p q =
    (receives p.life ≡ false) × (receives q.life ≡ false) × (flow_of p.life p.link ≡ flow_of q.life q.link)
    → (q.life.messages ≡ 0) ⊎ (p.life.messages ≤ length (texts_for p.life p.link (before (begun q.life) log)))

abbrev pub AreAfter : List Crossing → Linked → List Linked → Type 0
AreAfter log p [] = Unit {0}
AreAfter log p (q ∷ qs) = IsBefore log p q × AreAfter log p qs

abbrev pub AreApart : List Crossing → List Linked → Type 0
AreApart log [] = Unit {0}
AreApart log (p ∷ ps) = AreAfter log p ps × AreApart log ps

-- a message that went out at a place is one of those that a sending life counts
pub record IsSentIn (log : List Crossing) (place : ℕ) (m : HostMessage) (p : Linked) : Type 0 where
  pub sending : receives p.life ≡ false
  pub flow : m.flow ≡ flow_of p.life p.link
  pub own : p.life.own_stamp < place
  pub partner : p.life.partner_stamp < place
  pub counted : length (texts_for p.life p.link (before place log)) < p.life.messages

pub record LinkedBook (hosts : Network) (log : List Crossing) (lives : List Life) : Type 0 where
  pub links : List Linked
  pub all : map (λ p. p.life) links ≡ lives
  pub first : (p : Linked) → Contains links p → IsFirst log p
  pub apart : AreApart log links
  pub sent : (place : ℕ) (m : HostMessage) → AreOurs hosts m.flow.source m.flow.destination
      → CrossedAt place (crossing.Out m) log → (m.flow.link.0 == 0) ≡ false
      → (p : Linked) × Contains links p × IsSentIn log place m p
