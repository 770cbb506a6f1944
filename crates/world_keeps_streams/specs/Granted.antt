-- What a life that sends was granted by the ALLs that its host took (NIC 8246, ALL).
use Rattle.std.specs.Prelude.{◌≡◌, ℕ, ◌≤◌, ◌==◌, ◌&&◌, Bool, true, List, [], ◌∷◌, length, Some}
use Rattle.std.specs.Prelude.{if◌then◌else◌, nat_le, nat_lt}
use Rattle.std.specs.List.{Contains}
use Rattle.interface.specs.Mailboxes.{same_flow}
use Rattle.interface.specs.declared.crossing.Crossing.{Crossing}
use Rattle.interface.specs.declared.crossing.Crossing.TheVariants as crossing
use Rattle.host_pairs.specs.Control.{Legal, Order, orders_of}
use Rattle.ncp_control.specs.declared.command.Command.TheVariants as command
use Rattle.promise.specs.Formed.{link_of}
use Rattle.promise.specs.Safe.{control_flow, sends}
use Rattle.promise.specs.declared.life.Amount.{Amount}
use Rattle.promise.specs.declared.life.Life.{Life}
use Rattle.net_sim.specs.Book.{more, nothing}

-- the messages and bits that the ALLs in a text grant on a link, all together (NIC 8246, ALL)
abbrev pub granted_in : ℕ → List Order → Amount
granted_in link [] = nothing
granted_in link (Legal (command.All other messages bits) ∷ orders) =
    if other == link then more messages bits (granted_in link orders) else granted_in link orders
granted_in link (o ∷ orders) = granted_in link orders

-- a life's host takes them at this place: after its own request went out, and in the message with its partner's request
-- or after it
abbrev pub may_grant : Life → ℕ → Bool
may_grant x place = nat_lt x.own_stamp place && nat_le x.partner_stamp place

-- what a crossing at a place grants a life: a message that comes in on link 0 from its peer
abbrev pub granted_at : Life → ℕ → ℕ → Crossing → Amount
granted_at x link place (crossing.In m) =
    if may_grant x place && same_flow (control_flow x.peer x.host) m.flow then granted_in link (orders_of m.text)
    else nothing
granted_at x link place c = nothing

-- and all that crossed
abbrev pub granted_to : Life → ℕ → List Crossing → Amount
granted_to x link [] = nothing
granted_to x link (c ∷ log) =
    more (granted_at x link (length log) c).messages (granted_at x link (length log) c).bits (granted_to x link log)

-- what a life sent is within what its peer granted on this link
pub record IsWithin (log : List Crossing) (x : Life) (link : ℕ) : Type 0 where
  pub messages : x.messages ≤ (granted_to x link log).messages
  pub bits : length x.bits ≤ (granted_to x link log).bits

-- and so is what each life sent, on the link that its requests name
abbrev pub EachIsWithin : List Crossing → List Life → Type 0
EachIsWithin log lives =
    (sender : Life) (link : ℕ) → Contains lives sender → sends sender ≡ true → link_of log sender ≡ Some link
    → IsWithin log sender link
