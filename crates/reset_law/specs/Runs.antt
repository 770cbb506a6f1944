-- What may happen: what the mailboxes allow, and what host programs do by themselves.
use Rattle.std.specs.Prelude.{◌≡◌, ℕ, Bool, true, false, List, [], ◌∷◌}
use Rattle.interface.specs.Host.{Host, is_host}
use Rattle.reset_law.specs.Events.{Other, Event, Contact, Out, In, Told, Down, Up, Idle, is_up}
use Rattle.reset_law.specs.Boxes.{Empty, Waiting, WaitsWith, Fits, boxes}
use Rattle.reset_law.specs.Pairs.{pair, MaySend}
use Rattle.reset_law.specs.Monitor.{monitor, IsAfter}
use Rattle.reset_law.specs.Network.{AreOurs, Network}

-- what the mailboxes need
abbrev pub Needs : List Host → Event → List Event → Type 0
Needs hosts (Contact x y) events = Unit {0}
Needs hosts (Out x y l m) events = (is_up hosts x events ≡ true) × (boxes x y events l ≡ Empty)
Needs hosts (In x y l m) events = (is_up hosts y events ≡ true) × WaitsWith (boxes x y events l) m
Needs hosts (Told x y l k) events = (is_up hosts x events ≡ true) × Fits k (boxes x y events l)
Needs hosts (Down x) events = is_up hosts x events ≡ true
Needs hosts (Up x) events = (is_host hosts x ≡ true) × (is_up hosts x events ≡ false)
Needs hosts Idle events = Unit {0}

-- a host's program sends to another's what it may, and its user asks only where it is up. Strangers do anything that the mailboxes allow
abbrev pub Allowed : Network → Event → List Event → Type 0
Allowed hosts (Out x y l m) events = AreOurs hosts x y → MaySend (pair x y events) l m
Allowed hosts (Contact x y) events = hosts.strange x ≡ false → is_up hosts.all x events ≡ true
Allowed hosts e events = Unit {0}

abbrev pub IsRun : Network → List Event → Type 0
IsRun hosts [] = Unit {0}
IsRun hosts (e ∷ events) = Needs hosts.all e events × Allowed hosts e events × IsRun hosts events

-- a message waits on a link, and went out after the last clean point of the host that will take it
pub record WaitsAfterClean (a b : Host) (link : ℕ) (text : List Bool) (events : List Event) : Type 0 where
  pub place : ℕ
  pub waits : boxes a b events link ≡ Waiting place (Other text)
  pub after : IsAfter place (monitor b a events).clean
