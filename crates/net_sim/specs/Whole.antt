-- What is kept of a world describes one list of moments.
use Rattle.std.specs.Prelude.{◌≡◌, Bool, false, if◌then◌else◌, List, [], ◌∷◌, map, Some, None, All}
use Rattle.interface.specs.Calls.{Seen}
use Rattle.interface.specs.Host.{Host, IsAddress}
use Rattle.interface.specs.Mailboxes.{is_up}
use Rattle.ncp_control.specs.Command.{IsWord}
use Rattle.net_sim.specs.Mixed.{AreMixed, mixed_kept}
use Rattle.net_sim.specs.Steps.{with_programs}
use Rattle.net_sim.specs.Story.{Moment, program}
use Rattle.net_sim.specs.Timeline.{IsAddressed, IsAsked, IsTimeline, crossings_of, contacts_of}
use Rattle.net_sim.specs.Told.{kept_in, without_reports}
use Rattle.host_services.specs.Named.{NamePeers}
use Rattle.net_sim.specs.World.{Event, Net, Quiet, Offer, Take, Ask, Server, User, Typed, Out, Seat, ServiceSeat, WorldState}

-- a host's seat after these moments
abbrev pub seat_in : List Host → List Moment → Host → Seat
seat_in hosts moments h = record { host = h; program = if is_up hosts h (crossings_of moments) then Some (program h moments) else None }

-- until memory runs out each host has its services, in the hosts' order, and they name their peers by addresses
pub record AreServed (hosts : List Host) (all : List ServiceSeat) : Type 0 where
  pub order : map (λ s. s.host) all ≡ hosts
  pub named : All (λ s. NamePeers s.services) all

-- the book has the crossings and the contacts of these moments, and all else that is kept, except for what services report, is what
-- they say. Until memory runs out each host that is up has the program that comes of them
pub record IsWhole {C : Type 0} (seen : C → Seen) (hosts : List Host) (w : WorldState C) : Type 0 where
  pub moments : List Moment
  pub timeline : IsTimeline hosts moments
  pub network : (seen w.carrier).hosts ≡ hosts
  pub crossings : w.kept.book.crossings ≡ crossings_of moments
  pub contacts : w.kept.book.contacts ≡ contacts_of moments
  pub kept : without_reports w.kept ≡ kept_in moments
  pub seats : w.stopped ≡ false → w.seats ≡ map (seat_in hosts moments) hosts
  pub services : w.stopped ≡ false → AreServed hosts w.services

-- the same where strangers do what they like: it describes one list of mixed moments, and until memory runs out each host with a program that
-- is up has the program that comes of them
pub record IsWholeAmong {C : Type 0} (strange : Host → Bool) (seen : C → Seen) (hosts : List Host) (w : WorldState C) : Type 0 where
  pub moments : List Moment
  pub mixed : AreMixed strange hosts moments
  pub network : (seen w.carrier).hosts ≡ hosts
  pub crossings : w.kept.book.crossings ≡ crossings_of moments
  pub contacts : w.kept.book.contacts ≡ contacts_of moments
  pub kept : without_reports w.kept ≡ mixed_kept strange moments
  pub seats : w.stopped ≡ false → w.seats ≡ map (seat_in hosts moments) (with_programs strange hosts)
  pub services : w.stopped ≡ false → AreServed (with_programs strange hosts) w.services

-- what a user asks for names its peer by an address, and has numbers of their types
abbrev pub IsNamed : Event → Type 0
IsNamed (Net e) = Unit {0}
IsNamed Quiet = Unit {0}
IsNamed (Offer h) = Unit {0}
IsNamed (Take h) = Unit {0}
IsNamed (Ask h r) = IsAddressed r × IsAsked r
IsNamed (Server h listen base) = Unit {0}
IsNamed (User h peer listen own) = IsAddress peer × IsWord listen
IsNamed (Typed h line) = Unit {0}
IsNamed (Out m) = Unit {0}

abbrev pub Each : (Event → Type 0) → List Event → Type 0
Each P [] = Unit {0}
Each P (e ∷ events) = P e × Each P events
