-- The parts of a world with strangers, and a world as every call of it leaves it.
use Rattle.std.specs.Prelude.{Bool, List, Result}
use Rattle.interface.specs.Calls.{Seen, InOrder}
use Rattle.interface.specs.Host.{Host}
use Rattle.net_sim.specs.Inside.Parts.{HostsState, world_after, world_of}
use Rattle.net_sim.specs.Clean.{IsLawfulAmong}
use Rattle.net_sim.specs.Steps.{strange_in}
use Rattle.net_sim.specs.World.{WorldFault, WorldState}

-- a world, but with these strangers
abbrev pub among : {C : Type 0} → List Host → WorldState C → WorldState C
among strangers w = record w { strangers = strangers }

-- of a carrier, hosts and strangers: as it is, while it runs, and after an event with this answer
abbrev pub of_hosts : {C : Type 0} → C → HostsState → List Host → Bool → WorldState C
of_hosts c h strangers stopped = record { carrier = c; strangers = strangers; seats = h.seats; services = h.services; kept = h.book; stopped = stopped }

abbrev pub among_of : {C : Type 0} → C → HostsState → List Host → WorldState C
among_of c h strangers = among strangers (world_of c h)

abbrev pub among_after : {C : Type 0} → C → HostsState → List Host → Result (Unit {0}) WorldFault → WorldState C
among_after c h strangers r = among strangers (world_after c h r)

-- its hosts are in order, and it is lawful
pub record IsHeld {C : Type 0} (seen : C → Seen) (w : WorldState C) : Type 0 where
  pub ordered : InOrder (seen w.carrier).hosts
  pub lawful : IsLawfulAmong (strange_in w) seen (seen w.carrier).hosts w
