-- Worlds in whose programs and services memory lasts.
use Rattle.std.specs.Prelude.{◌≡◌, Bool, false, IfSome}
use Rattle.std.specs.List.{All}
use Rattle.host_services.specs.declared.service.Service.{Service}
use Rattle.host_services.specs.declared.service.Service.TheVariants as service
use Rattle.interface.specs.Host.{Host}
use Rattle.net_sim.specs.World.{WorldState}
use Rattle.net_sim.specs.declared.seat.Seat.{Seat}
use Rattle.net_sim.specs.declared.seat.ServiceSeat.{ServiceSeat}
use Rattle.sockets.specs.Pairs.{NcpState}

-- the program of this host, which has not run out of memory
pub record ProgramLasts (h : Host) (s : NcpState) : Type 0 where
  pub own : s.own ≡ h
  pub unspent : s.spent ≡ false

abbrev pub SeatLasts : Seat → Type 0
SeatLasts s = IfSome s.program (ProgramLasts s.host)

-- whether a service has run out of memory
abbrev pub is_spent : Service → Bool
is_spent (service.Server s) = s.spent
is_spent (service.User u) = u.spent
is_spent (service.Echo e) = e.spent
is_spent (service.Terminal t) = t.spent

abbrev pub ServiceLasts : Service → Type 0
ServiceLasts s = is_spent s ≡ false

abbrev pub ServicesLast : ServiceSeat → Type 0
ServicesLast s = All ServiceLasts s.services.running

-- each host that is up has its own program, and neither a program nor a service has run out of memory
pub record Lasts {C : Type 0} (w : WorldState C) : Type 0 where
  pub programs : All SeatLasts w.seats
  pub services : All ServicesLast w.services
