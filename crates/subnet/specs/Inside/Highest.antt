-- The highest number with which a message was begun: no higher one is alive of a flow whose source's IMP is up.
use Rattle.std.specs.Prelude.{◌≡◌, ℕ, ◌≤◌, true, List, Option, Some, None, All}
use Rattle.interface.specs.declared.address.Flow.{Flow}
use Rattle.packetiser.specs.PacketFields.{PacketFields}
use Rattle.flow_law.specs.Moves.{next_number}
use Rattle.imp_node.specs.Queries.{last, outstanding}
use Rattle.imp_node.specs.State.{State}
use Rattle.subnet.specs.Net.{Net, imp_at}
use Rattle.subnet.specs.Alive.{packets}
use Rattle.subnet.specs.Flows.{imp_is_up}

-- the messages that are outstanding at an IMP have no higher number
abbrev pub OutstandingUpTo : ℕ → State → Type 0
OutstandingUpTo highest s = (f : Flow) (number : ℕ) → outstanding s f ≡ Some number → number ≤ highest

abbrev pub ImpUpTo : ℕ → Option State → Type 0
ImpUpTo highest None = Unit {0}
ImpUpTo highest (Some s) = OutstandingUpTo highest s

-- a packet has no higher number while its source's IMP is up
abbrev pub PacketUpTo : ℕ → List (Option State) → PacketFields → Type 0
PacketUpTo highest imps p = imp_is_up (imp_at imps p.source.imp) ≡ true → p.number ≤ highest

pub record NumbersUpTo (highest : ℕ) (n : Net) : Type 0 where
  pub outstanding : All (ImpUpTo highest) n.imps
  pub packets : All (PacketUpTo highest n.imps) (packets n)

-- the number that an offer would begin, if the source's IMP is up
abbrev pub next_at : Option State → Flow → ℕ
next_at None f = 0
next_at (Some s) f = next_number (last s f)
