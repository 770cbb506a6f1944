-- The parts of plain mailboxes, and which of them an event can change.
use Rattle.std.specs.Prelude.{◌≡◌, Bool, true, false, ◌||◌, List, [], ◌∷◌, ◌++◌, if◌then◌else◌, filter, map}
use Rattle.leader1822.specs.Boxes.{Boxes, for_host}
use Rattle.interface.specs.Host.{Host, is_host, same_host}
use Rattle.interface.specs.declared.crossing.Crossing.{Crossing}
use Rattle.interface.specs.declared.crossing.Crossing.TheVariants as crossing
use Rattle.interface.specs.declared.event.NetEvent.TheVariants as net
use Rattle.script.specs.declared.event.RawEvent.{RawEvent}
use Rattle.script.specs.declared.event.RawEvent.TheVariants as event

-- the hosts that are down, and for each host of the network what waits for it
pub data Part : Type 0 where
  Down : Part
  Waiting : (host : Host) → Part

-- all parts of a network of these hosts
abbrev pub all_parts : List Host → List Part
all_parts hosts = Down ∷ map (λ h. Waiting h) hosts

-- ---- the parts that an event can change

-- a host stops or starts
abbrev pub moves_host : RawEvent → Bool
moves_host (event.Out m) = false
moves_host (event.Take h) = false
moves_host (event.Net (net.HostDown h)) = true
moves_host (event.Net (net.HostUp h)) = true
moves_host (event.Net e) = false
moves_host (event.Calm rounds) = false

-- the source of a message that came in, which waits for an RFNM now
abbrev pub is_source : Host → List Crossing → Bool
is_source h [] = false
is_source h (crossing.In m ∷ crossings) = same_host h m.flow.source || is_source h crossings
is_source h (c ∷ crossings) = is_source h crossings

-- An event and what crossed in it show the hosts for which other messages or answers may wait now: the two hosts of a message that
-- goes out or is given up, the host that takes and the source of what came in, and all hosts when one stops
abbrev pub reaches : RawEvent → List Crossing → Host → Bool
reaches (event.Out m) crossings h = same_host h m.flow.destination || same_host h m.flow.source
reaches (event.Take g) crossings h = same_host h g || is_source h crossings
reaches (event.Net (net.GiveUp f)) crossings h = same_host h f.destination || same_host h f.source
reaches (event.Net (net.HostDown g)) crossings h = true
reaches (event.Net e) crossings h = false
reaches (event.Calm rounds) crossings h = false

-- the parts that an elementary event can change, in the order of the hosts
abbrev pub parts_of : List Host → RawEvent → List Crossing → List Part
parts_of hosts e crossings = (if moves_host e then Down ∷ [] else []) ++ map (λ h. Waiting h) (filter (reaches e crossings) hosts)

-- ---- what a part is, and is named

-- a part of a network of these hosts
abbrev pub IsPart : List Host → Part → Type 0
IsPart hosts Down = Unit {0}
IsPart hosts (Waiting h) = is_host hosts h ≡ true

abbrev pub is_named : Part → List Part → Bool
is_named p [] = false
is_named Down (Down ∷ parts) = true
is_named Down (Waiting g ∷ parts) = is_named Down parts
is_named (Waiting h) (Down ∷ parts) = is_named (Waiting h) parts
is_named (Waiting h) (Waiting g ∷ parts) = same_host h g || is_named (Waiting h) parts

-- a part is the same in two states
abbrev pub SamePart : Part → Boxes → Boxes → Type 0
SamePart Down old new = new.down ≡ old.down
SamePart (Waiting h) old new = (for_host new.messages h ≡ for_host old.messages h) × (for_host new.answers h ≡ for_host old.answers h)
