-- The safe book, and what it is about: messages, partners, streams and allocation.
use Rattle.std.specs.Prelude.{◌≡◌, ℕ, ◌+◌, ◌-◌, ◌≤◌, Bool, true, if◌then◌else◌, List, [], ◌∷◌, ◌++◌, length, drop, Option, Some, None, IsSome}
use Rattle.std.specs.List.{Contains}
use Rattle.interface.specs.Host.{Host}
use Rattle.interface.specs.Mailboxes.{same_flow}
use Rattle.interface.specs.Messages.{SafeMessages}
use Rattle.interface.specs.declared.address.Flow.{Flow}
use Rattle.interface.specs.declared.crossing.Crossing.{Crossing}
use Rattle.interface.specs.declared.crossing.Crossing.TheVariants as crossing
use Rattle.ncp_control.specs.Numbers.{is_receive_socket, is_send_socket}
use Rattle.promise.specs.declared.life.Life.{Life}

-- ---- requests

-- a request, RTS or STR: the place where the message that carries it went out, and its two sockets as its sender sees them
pub record Name : Type 0 where
  pub place : ℕ
  pub own : ℕ
  pub foreign : ℕ

-- the crossings before a place
abbrev pub before : ℕ → List Crossing → List Crossing
before place log = drop (length log - place) log

-- where the last message of a flow went out
abbrev pub last_out : Flow → List Crossing → Option ℕ
last_out f [] = None
last_out f (crossing.Out m ∷ log) = if same_flow f m.flow then Some (length log) else last_out f log
last_out f (c ∷ log) = last_out f log

-- requests are sent on link 0
abbrev pub control_flow : Host → Host → Flow
control_flow from to = record { source = from; destination = to; link = record { 0 = 0 } }

abbrev pub own_request : Life → Name
own_request x = record { place = x.own_stamp; own = x.socket; foreign = x.foreign }

-- what was taken at the life's partner stamp belongs to the peer's last message out before that
abbrev pub named : Life → Option ℕ → Option Name
named x None = None
named x (Some place) = Some (record { place = place; own = x.foreign; foreign = x.socket })

abbrev pub partner_request : List Crossing → Life → Option Name
partner_request log x = named x (last_out (control_flow x.peer x.host) (before x.partner_stamp log))

-- ---- partners

-- two lives of one list, at two places of it
abbrev pub AreTwo : List Life → Life → Life → Type 0
AreTwo lives x y = (front : List Life) × (between : List Life) × (rest : List Life) × (lives ≡ front ++ x ∷ between ++ y ∷ rest)

-- no two lives have the same own request, and no two the same partner's request. Each life has a partner's request, in a message of its
-- peer to its host; and where that is another life's own, each has the other's host for its peer, and the other's partner's request is its own
pub record SafePartners (log : List Crossing) (lives : List Life) : Type 0 where
  pub own_once : (x y : Life) → AreTwo lives x y → own_request x ≡ own_request y → ⊥
  pub partner_once : (x y : Life) (name : Name) → AreTwo lives x y → partner_request log x ≡ Some name → partner_request log y ≡ Some name → ⊥
  pub named : (x : Life) → Contains lives x → IsSome (partner_request log x)
  pub peers : (x y : Life) → Contains lives x → Contains lives y → partner_request log x ≡ Some (own_request y) → (x.peer ≡ y.host) × (y.peer ≡ x.host)
  pub both_ways : (x y : Life) → Contains lives x → Contains lives y → partner_request log x ≡ Some (own_request y) → partner_request log y ≡ Some (own_request x)

-- ---- a receiving life and a sending one

abbrev pub receives : Life → Bool
receives x = is_receive_socket x.socket

abbrev pub sends : Life → Bool
sends x = is_send_socket x.socket

-- they are one connection: each is the other's peer, with the other's socket, and the partner's request of each is the other's own
pub record Match (log : List Crossing) (receiver sender : Life) : Type 0 where
  pub receiving : receives receiver ≡ true
  pub sending : sends sender ≡ true
  pub peers : (receiver.peer ≡ sender.host) × (sender.peer ≡ receiver.host)
  pub sockets : (receiver.foreign ≡ sender.socket) × (sender.foreign ≡ receiver.socket)
  pub asked : partner_request log receiver ≡ Some (own_request sender)
  pub answered : partner_request log sender ≡ Some (own_request receiver)

-- a list is a prefix of another
abbrev pub IsPrefix : List Bool → List Bool → Type 0
IsPrefix xs ys = (rest : List Bool) × (xs ++ rest ≡ ys)

-- a sending life that a receiving one matches, and that sent what the receiving one took
pub record Source (log : List Crossing) (lives : List Life) (receiver : Life) : Type 0 where
  pub sender : Life
  pub there : Contains lives sender
  pub matches : Match log receiver sender
  pub front : IsPrefix receiver.bits sender.bits

-- what each sending life sent is a prefix of what was handed over in it
abbrev pub AreHanded : List Life → List (List Bool) → Type 0
AreHanded [] handed = handed ≡ []
AreHanded (x ∷ lives) [] = ⊥
AreHanded (x ∷ lives) (h ∷ handed) = (sends x ≡ true → IsPrefix x.bits h) × AreHanded lives handed

-- a receiving life matches at most one sending one; where it took any bit there is one, and what it took is a prefix of what
-- that one sent. What each sending life sent is a prefix of what was handed over in it
pub record SafeStreams (log : List Crossing) (lives : List Life) (handed : List (List Bool)) : Type 0 where
  pub one : (receiver x y : Life) → Contains lives receiver → AreTwo lives x y → Match log receiver x → Match log receiver y → ⊥
  pub source : (receiver : Life) → Contains lives receiver → receives receiver ≡ true → (receiver.bits ≡ [] → ⊥) → Source log lives receiver
  pub sent : AreHanded lives handed

-- ---- allocation

-- this many messages and bits, with what was returned, are no more than what a receiving life granted
pub record IsGranted (receiver : Life) (count size : ℕ) : Type 0 where
  pub messages : count + receiver.returned.messages ≤ receiver.granted.messages
  pub bits : size + receiver.returned.bits ≤ receiver.granted.bits

-- what a receiving life took is granted, and so is what a sending life sent that it matches
pub record SafeGrants (log : List Crossing) (lives : List Life) : Type 0 where
  pub taken : (receiver : Life) → Contains lives receiver → receives receiver ≡ true → IsGranted receiver receiver.messages (length receiver.bits)
  pub sent : (receiver sender : Life) → Contains lives receiver → Contains lives sender → Match log receiver sender → IsGranted receiver sender.messages (length sender.bits)

-- ---- the safe book

-- a message answered by RFNM was taken exactly once and none is taken twice; no two ends hold one opening with different partners;
-- what was taken, if anything was, is a prefix of what its one partner sent, and what was sent of what was handed over; and what was taken, and what was
-- sent, is granted
pub record SafeBook (log : List Crossing) (lives : List Life) (handed : List (List Bool)) : Type 0 where
  pub messages : SafeMessages log
  pub partners : SafePartners log lives
  pub streams : SafeStreams log lives handed
  pub grants : SafeGrants log lives
