-- What ALLs grant on each flow of data, from each place of a log on. No public clause cites this file.
use Rattle.std.specs.Prelude.{◌≡◌, ℕ, suc, ◌<◌, ◌≤◌, ◌-◌, ◌^◌, ◌==◌, ◌&&◌, nat_le, min, if◌then◌else◌, List, [], ◌∷◌, length, drop, slice_get}
use Rattle.std.specs.Prelude.{◌+◌, true, Option, Some, None, reverse}
use Rattle.std.specs.FinMap as map
use Rattle.interface.specs.Host.{Host}
use Rattle.interface.specs.Mailboxes.{same_flow}
use Rattle.interface.specs.declared.address.Flow.{Flow}
use Rattle.interface.specs.declared.crossing.Crossing.{Crossing}
use Rattle.interface.specs.declared.crossing.Crossing.TheVariants as crossing
use Rattle.ncp_control.specs.declared.command.Command.{Command}
use Rattle.ncp_control.specs.declared.command.Command.TheVariants as command
use Rattle.host_pairs.specs.Control.{Legal, Order, Wrong, orders_of, orders_within}
use Rattle.net_sim.specs.Book.{more, nothing}
use Rattle.promise.specs.Safe.{sends}
use Rattle.promise.specs.declared.life.Amount.{Amount}
use Rattle.promise.specs.declared.life.Life.{Life}
use Rattle.world_keeps_streams.specs.Granted.{IsWithin}
use Rattle.book_judge.specs.declared.allocations.Allocations.{Allocations}
use Rattle.book_judge.specs.declared.allocations.Grant.{Grant}
use Rattle.book_judge.specs.declared.allocations.Supply.{Supply}
use Rattle.book_judge.specs.declared.allocations.Total.{Total}
use Rattle.book_judge.specs.declared.starts.Start.{Start}

-- ---- what is granted

-- of a flow of data: what is granted on it from a place on
abbrev pub Grants : Type 0
Grants = Flow → ℕ → Amount

abbrev pub both : Amount → Amount → Amount
both a b = more a.messages a.bits b

-- what a command grants, and on which link
abbrev pub grant_of : Command → Option Grant
grant_of (command.All link messages bits) = Some (record { link = link; messages = messages; bits = bits })
grant_of c = None

abbrev pub with_grant : Option Grant → List Grant → List Grant
with_grant None grants = grants
with_grant (Some g) grants = g ∷ grants

-- what the commands of a text grant
abbrev pub grants_in : List Order → List Grant
grants_in [] = []
grants_in (Legal c ∷ orders) = with_grant (grant_of c) (grants_in orders)
grants_in (Wrong code octets ∷ orders) = grants_in orders

abbrev pub data_flow : Host → Host → ℕ → Flow
data_flow from to link = record { source = from; destination = to; link = record { 0 = link } }

-- an ALL that a host takes from its peer at a place
abbrev pub by_grant : ℕ → Host → Host → Grant → Grants
by_grant place host peer g f from =
    if nat_le from place && same_flow f (data_flow host peer g.link) then record { messages = g.messages; bits = g.bits } else nothing

-- several, and one that there may be
abbrev pub by_grants : ℕ → Host → Host → List Grant → Grants
by_grants place host peer [] f from = nothing
by_grants place host peer (g ∷ grants) f from = both (by_grant place host peer g f from) (by_grants place host peer grants f from)

abbrev pub by_any : ℕ → Host → Host → Option Grant → Grants
by_any place host peer None f from = nothing
by_any place host peer (Some g) f from = by_grant place host peer g f from

-- what crosses at a place
abbrev pub by_crossing : ℕ → Crossing → Grants
by_crossing place (crossing.In m) f from =
    if 0 == m.flow.link.0 then by_grants place m.flow.destination m.flow.source (grants_in (orders_of m.text)) f from else nothing
by_crossing place c f from = nothing

-- all that crosses, the oldest first, from a place on
abbrev pub by_log : ℕ → List Crossing → Grants
by_log place [] f from = nothing
by_log place (c ∷ log) f from = both (by_crossing place c f from) (by_log (suc place) log f from)

-- ---- what is known of it

-- sums have 128 bits
abbrev pub capped : Amount → Amount
capped a = record { messages = min a.messages (2 ^ 128 - 1); bits = min a.bits (2 ^ 128 - 1) }

-- what the last of some totals has whose place isn't before this one, where they go back
abbrev pub held : Amount → ℕ → List Total → Amount
held last from [] = last
held last from (t ∷ ts) = if nat_le from t.place then held t.all from ts else last

-- places go back, from a first to a last
abbrev pub Falls : ℕ → ℕ → List Total → Type 0
Falls top floor [] = floor ≤ top
Falls top floor (t ∷ ts) = (t.place ≤ top) × Falls t.place floor ts

-- how many of some totals are not before a place
pub record IsHeldFrom (totals : List Total) (from count : ℕ) : Type 0 where
  pub within : count ≤ length totals
  pub parts : (top floor : ℕ) → Falls top floor totals
      → ((i : ℕ) (t : Total) → slice_get totals i ≡ Some t → i < count → from ≤ t.place)
      × ((i : ℕ) (t : Total) → slice_get totals i ≡ Some t → count ≤ i → t.place < from)

-- a supply has what is granted on one flow, by ALLs that came in at a place or after it
pub record IsSupply (granted : ℕ → Amount) (floor : ℕ) (s : Supply) : Type 0 where
  pub top : ℕ
  pub falls : Falls top floor s.totals.items
  pub all : (from : ℕ) → from ≤ floor → s.all ≡ capped (granted from)
  pub since : (from : ℕ) → held nothing from s.totals.items ≡ capped (granted from)

-- with an ALL that came in at a place, where none came in before
abbrev pub Grows : ℕ → ℕ → ℕ → Supply → Supply → Type 0
Grows place messages bits old new =
    (granted : ℕ → Amount) → IsSupply granted place old
    → IsSupply (λ from. both (if nat_le from place then record { messages = messages; bits = bits } else nothing) (granted from)) place new

-- on a flow without a number nothing is granted, and of one with a number the supply is there
abbrev pub SupplyOf : (ℕ → Amount) → ℕ → Option ℕ → List Supply → Type 0
SupplyOf granted floor None supplies = (from : ℕ) → granted from ≡ nothing
SupplyOf granted floor (Some n) supplies = (s : Supply) × (slice_get supplies n ≡ Some s) × IsSupply granted floor s

-- so it is of all flows, and no two have one number
pub record AreHeld (floor : ℕ) (granted : Grants) (a : Allocations) : Type 0 where
  pub supplies : (f : Flow) → SupplyOf (granted f) floor (map.get a.numbers f) a.supplies.items
  pub apart : (f g : Flow) (n : ℕ) → map.get a.numbers f ≡ Some n → map.get a.numbers g ≡ Some n → f ≡ g

-- it has what some ALLs grant, of which none came in before a place
abbrev pub IsHeld : ℕ → Allocations → Type 0
IsHeld place a = (granted : Grants) × AreHeld place granted a

-- a flow has a number now, and nothing more is granted
abbrev pub IsNumbered : ℕ → Flow → Allocations → Allocations → Type 0
IsNumbered n f old new =
    (place : ℕ) (granted : Grants) → AreHeld place granted old → AreHeld place granted new × (map.get new.numbers f ≡ Some n)

-- this is granted beside it, by what comes in at a place
abbrev pub Adds : ℕ → Grants → Allocations → Allocations → Type 0
Adds place given old new =
    (granted : Grants) → AreHeld place granted old → AreHeld place (λ f from. both (given f from) (granted f from)) new

-- with the ALLs that are left all is granted that is to be
pub record AreLeft (place : ℕ) (host peer : Host) (grants : List Grant) (whole : Grants) (a : Allocations) : Type 0 where
  pub granted : Grants
  pub same : (f : Flow) (from : ℕ) → both (by_grants place host peer grants f from) (granted f from) ≡ whole f from
  pub held : AreHeld place granted a

-- what octets begin with grants this, and this number of them is read by it
abbrev pub BeginsWith : List ℕ → Option Grant → ℕ → Type 0
BeginsWith octets found read =
    (most : ℕ) → grants_in (orders_within (1 + most) octets) ≡ with_grant found (grants_in (orders_within most (drop read octets)))

-- of a log, the oldest first
abbrev pub AreAllocations : List Crossing → Allocations → Type 0
AreAllocations log a = AreHeld 0 (by_log 0 log) a

-- ---- what is judged

-- what a life sent is within what its peer granted, where it sends and its link is known
abbrev pub IsWithinOn : List Crossing → Life → Option Start → Type 0
IsWithinOn log x None = Unit {0}
IsWithinOn log x (Some s) = sends x ≡ true → IsWithin (reverse log) x s.link

-- what is promised of the life at a place
abbrev pub WithinAt : List Crossing → List (Option Start) → List Life → ℕ → Type 0
WithinAt log starts lives i =
    (x : Life) (s : Start) → slice_get lives i ≡ Some x → slice_get starts i ≡ Some (Some s) → IsWithinOn log x (Some s)
