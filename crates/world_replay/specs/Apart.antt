-- What an event leaves as it was.
use Rattle.std.specs.Prelude.{◌≡◌, ℕ, false, length, Some, slice_get}
use Rattle.interface.specs.Host.{Host, same_host}
use Rattle.net_sim.specs.World.{WorldState}
use Rattle.net_sim.specs.declared.event.Event.{Event}
use Rattle.net_sim.specs.declared.event.Event.TheVariants.{Ask, Offer, Server, Take, Typed, User}
use Rattle.net_sim.specs.declared.seat.Seat.{Seat}
use Rattle.net_sim.specs.declared.seat.ServiceSeat.{ServiceSeat}

-- an event at this host
abbrev pub IsAt : Host → Event → Type 0
IsAt h (Offer g) = g ≡ h
IsAt h (Take g) = g ≡ h
IsAt h (Ask g q) = g ≡ h
IsAt h (Server g listen base) = g ≡ h
IsAt h (User g peer listen own) = g ≡ h
IsAt h (Typed g line) = g ≡ h
IsAt h e = ⊥

-- each other host has its program and its services as before, at their places
pub record OthersStay {C : Type 0} (h : Host) (old new : WorldState C) : Type 0 where
  pub seats : (i : ℕ) (s : Seat) → slice_get old.seats i ≡ Some s → same_host h s.host ≡ false → slice_get new.seats i ≡ Some s
  pub services : (i : ℕ) (s : ServiceSeat) → slice_get old.services i ≡ Some s → same_host h s.host ≡ false → slice_get new.services i ≡ Some s
  pub as_many_seats : length new.seats ≡ length old.seats
  pub as_many_services : length new.services ≡ length old.services

-- all hosts have theirs as before, and so has the book
pub record SameHosts {C : Type 0} (old new : WorldState C) : Type 0 where
  pub seats : new.seats ≡ old.seats
  pub services : new.services ≡ old.services
  pub kept : new.kept ≡ old.kept
