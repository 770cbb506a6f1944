-- A world's parts, and where a host sits.
use Rattle.std.specs.Prelude.{◌≡◌, ◌<◌, ℕ, Bool, true, false, List, [], ◌∷◌, length, map, Option, Some, None, Result, Ok, Err, slice_index_or, slice_set, All, IfSome, MatchResult, is_some, reverse}
use Rattle.interface.specs.Host.{Host, same_host, is_host}
use Rattle.interface.specs.declared.message.HostMessage.{HostMessage}
use Rattle.interface.specs.declared.carrier.CarrierFault.TheVariants as fault
use Rattle.host_services.specs.Services.{ServicesState, ServiceDeskState, opening_desk}
use Rattle.net_sim.specs.Book.{Kept, all_crossed, all_told, asked, opening_kept}
use Rattle.net_sim.specs.World.{WorldState, WorldFault, Carrier, Program, Seat, ServiceSeat, opening_seats, opening_services, seat_of, seated, services_of, serviced, done_by, turn_of, wants_memory}
use Rattle.host_services.specs.TypedLines.{line_bits}
use Rattle.interface.specs.declared.crossing.Crossing.{Crossing}
use Rattle.host_pairs.specs.declared.notice.Notice.{Notice}
use Rattle.sockets.specs.Pairs.{NcpState}
use Rattle.sockets.specs.Requests.{served, served_notices}
use Rattle.sockets.specs.Sending.{next_out}
use Rattle.sockets.specs.declared.fault.NcpFault.{NcpFault}
use Rattle.sockets.specs.declared.fault.NcpFault.TheVariants as problem
use Rattle.sockets.specs.declared.request.Request.{Request}
use Rattle.sockets.specs.declared.request.Request.TheVariants as requests

-- a seat and the services of each host, and the book
pub record HostsState : Type 0 where
  pub seats : List Seat
  pub services : List ServiceSeat
  pub book : Kept

abbrev pub runs_out : Result (Unit {0}) WorldFault → Bool
runs_out (Ok done) = false
runs_out (Err f) = wants_memory f

-- a world with no strangers, that hasn't stopped
abbrev pub running : {C : Type 0} → C → List Seat → List ServiceSeat → Kept → WorldState C
running c seats services k = record { carrier = c; strangers = []; seats = seats; services = services; kept = k; stopped = false }

abbrev pub world_ended : {C : Type 0} → C → List Seat → List ServiceSeat → Kept → Result (Unit {0}) WorldFault → WorldState C
world_ended c seats services k r = record { carrier = c; strangers = []; seats = seats; services = services; kept = k; stopped = runs_out r }

-- a world of a carrier and hosts, with no strangers: while it runs, and after an event with this answer
abbrev pub world_of : {C : Type 0} → C → HostsState → WorldState C
world_of c h = running c h.seats h.services h.book

abbrev pub world_after : {C : Type 0} → C → HostsState → Result (Unit {0}) WorldFault → WorldState C
world_after c h r = world_ended c h.seats h.services h.book r

-- each host has one seat
abbrev pub IsOnce : List Host → Type 0
IsOnce [] = Unit {0}
IsOnce (g ∷ hosts) = ((h : Host) → same_host h g ≡ true → is_host hosts h ≡ false) × IsOnce hosts

abbrev pub hosts_of : List Seat → List Host
hosts_of seats = map (λ s. s.host) seats

-- no program is spent
abbrev pub AreLive : List Seat → Type 0
AreLive seats = All (λ s. IfSome s.program (λ p. p.spent ≡ false)) seats

-- a host's program runs here
pub record Sits (h : Host) (place : ℕ) (s : NcpState) (seats : List Seat) : Type 0 where
  pub within : place < length seats
  pub is : (d : Seat) → slice_index_or seats place d ≡ record { host = h; program = Some s }
  pub found : seat_of h seats ≡ Some (record { host = h; program = Some s })
  pub set : (p : Option NcpState) → slice_set seats place (record { host = h; program = p }) ≡ seated h p seats

-- the host doesn't exist, or is down and has no program
pub data IsAway (h : Host) (f : WorldFault) (seats : List Seat) : Type 0 where
  NoSeat : f ≡ Carrier fault.NoSuch → seat_of h seats ≡ None → IsAway h f seats
  NoProgram : (seat : Seat) → f ≡ Carrier fault.IsDown → seat_of h seats ≡ Some seat → seat.program ≡ None → IsAway h f seats

-- a host's services are these, in the place of its seat
pub record Serves (h : Host) (place : ℕ) (services : ServicesState) (all : List ServiceSeat) : Type 0 where
  pub within : place < length all
  pub is : (d : ServiceSeat) → slice_index_or all place d ≡ record { host = h; services = services }
  pub found : services_of h all ≡ services
  pub set : (after : ServicesState) → slice_set all place (record { host = h; services = after }) ≡ serviced h after all

abbrev pub hosts_served : List ServiceSeat → List Host
hosts_served all = map (λ s. s.host) all

-- each host has one seat, and its services are in the place of that
pub record AreHosts (seats : List Seat) (services : List ServiceSeat) : Type 0 where
  pub once : IsOnce (hosts_of seats)
  pub order : hosts_served services ≡ hosts_of seats

-- a host's program runs here, and its services are in the place of its seat
abbrev pub IsUpAt : Host → ℕ → HostsState → Type 0
IsUpAt h at hosts = (s : NcpState) × (Sits h at s hosts.seats × Serves h at (services_of h hosts.services) hosts.services)

-- hosts that have just come up
abbrev pub opening_hosts : List Host → HostsState
opening_hosts hosts = record { seats = opening_seats hosts; services = opening_services hosts; book = opening_kept }

-- the services of a host had their turns, which left this of them and of the host; and that is written down
pub record IsDone (h : Host) (t : ServicesState × ServiceDeskState) (before : Kept) (program : NcpState) (after : ServicesState) (kept : Kept) : Type 0 where
  pub program_is : program ≡ t.1.program
  pub services_are : after ≡ t.0
  pub kept_is : kept ≡ done_by h t.1 before

-- the same, of a host in its seat. The seat and the services are of these hosts
pub record IsSettled (h g : Host) (t : ServicesState × ServiceDeskState) (before : Kept) (seat : Seat) (services : ServiceSeat) (kept : Kept) : Type 0 where
  pub seat_is : seat ≡ record { host = g; program = Some t.1.program }
  pub services_are : services ≡ record { host = h; services = t.0 }
  pub kept_is : kept ≡ done_by h t.1 before

-- and of all hosts in their places
pub record AreDone (h : Host) (t : ServicesState × ServiceDeskState) (seats : List Seat) (all : List ServiceSeat) (before : Kept) (seats_after : List Seat) (all_after : List ServiceSeat) (kept : Kept) : Type 0 where
  pub seats_are : seats_after ≡ seated h (Some t.1.program) seats
  pub services_are : all_after ≡ serviced h t.0 all
  pub kept_is : kept ≡ done_by h t.1 before

-- what a host's program says next, or there is no memory for that
abbrev pub SaysNext : NcpState → Result (Option HostMessage) WorldFault → Type 0
SaysNext s r = MatchResult r (λ message. message ≡ next_out s) (λ f. (is_some (next_out s) ≡ true) × (f ≡ Program problem.OutOfMemory))

-- ---- the hosts of a world before a call at one of them, and after it

-- of the host whose program runs here, and its services, this is so
abbrev pub OfHostAt : ℕ → HostsState → (Host → NcpState → ServicesState → Type 0) → Type 0
OfHostAt at hosts P = (h : Host) (s : NcpState) (x : ServicesState) → Sits h at s hosts.seats → Serves h at x hosts.services → P h s x

-- after a host's program made this of the call, with what was kept by then, its services had their turns
abbrev pub AreTended : Host → ServicesState → NcpState × List Notice → Kept → HostsState → HostsState → Type 0
AreTended h x turn k old new = AreDone h (turn_of h (length old.book.book.notices) x turn) old.seats old.services (all_told h turn.1 k) new.seats new.services new.book

-- a request of a host's user was served
abbrev pub AreServed : Host → NcpState → ServicesState → Request → HostsState → HostsState → Type 0
AreServed h s x r old new = AreTended h x (served s r, served_notices s r) (asked h r old.book) old new

-- a server or a user has begun on a host
abbrev pub AreBegun : Host → ServicesState × ServiceDeskState → HostsState → HostsState → Type 0
AreBegun h t old new = AreDone h t old.seats old.services old.book new.seats new.services new.book

-- the call was refused like this, and nothing changed
abbrev pub AreRefused : NcpFault → Result (Unit {0}) WorldFault → HostsState → HostsState → Type 0
AreRefused f r old new = (r ≡ Err (Program f)) × ((new.seats ≡ old.seats) × ((new.services ≡ old.services) × (new.book ≡ old.book)))

-- memory ran out
abbrev pub IsNoMemory : WorldFault → Type 0
IsNoMemory f = f ≡ Program problem.OutOfMemory

-- memory ran out, and nothing was written down
abbrev pub LacksMemory : HostsState → HostsState → WorldFault → Type 0
LacksMemory old new f = IsNoMemory f × (new.book ≡ old.book)

-- a request that isn't refused is served, or memory runs out
abbrev pub AreAnswered : Host → NcpState → ServicesState → Request → Result (Unit {0}) WorldFault → HostsState → HostsState → Type 0
AreAnswered h s x request r old new = MatchResult r (λ _. AreServed h s x request old new) (LacksMemory old new)

-- what is sent at a socket for a line
abbrev pub line_sent : ℕ → List ℕ → Request
line_sent socket line = requests.Send socket (line_bits line)

-- this crossed, oldest first
abbrev pub crossed_by : List Crossing → HostsState → Kept
crossed_by news h = all_crossed (reverse news) h.book

-- ---- a host's seat and its services before a call at them, and after it

-- of the program in a seat, this is so
abbrev pub OfProgram : Seat → (NcpState → Type 0) → Type 0
OfProgram seat P = (s : NcpState) → seat.program ≡ Some s → P s

-- a host's program made this of a call, with what was kept by then, and its services had their turns
abbrev pub Attends : ServiceSeat → NcpState × List Notice → Kept → Kept → NcpState → ServiceSeat → Kept → Type 0
Attends own turn before k program after kept = IsDone own.host (turn_of own.host (length before.book.notices) own.services turn) (all_told own.host turn.1 k) program after.services kept

-- the same, of the program in its seat
abbrev pub Settles : ServiceSeat → Seat → NcpState × List Notice → Kept → Kept → Seat → ServiceSeat → Kept → Type 0
Settles own seat turn before k seat_after after kept = IsSettled own.host seat.host (turn_of own.host (length before.book.notices) own.services turn) (all_told own.host turn.1 k) seat_after after kept

-- the call was about something that had crossed
abbrev pub SettlesNews : List Crossing → ServiceSeat → Seat → NcpState × List Notice → Kept → Seat → ServiceSeat → Kept → Type 0
SettlesNews news own seat turn k seat_after after kept = Settles own seat turn k (all_crossed (reverse news) k) seat_after after kept

-- a request was served by the program in its seat, which gave these notices
abbrev pub ServedIn : Seat → NcpState → Request → Seat → List Notice → Type 0
ServedIn seat s request after notices = (after ≡ record { host = seat.host; program = Some (served s request) }) × (notices ≡ served_notices s request)

-- and then the services had their turns, or memory ran out, and nothing was written down
abbrev pub SettlesAsked : ServiceSeat → Seat → NcpState → Request → Kept → Result (Unit {0}) WorldFault → Seat → ServiceSeat → Kept → Type 0
SettlesAsked own seat s request k r seat_after after kept =
    MatchResult r (λ _. Settles own seat (served s request, served_notices s request) k (asked own.host request k) seat_after after kept) (λ f. IsNoMemory f × (kept ≡ k))

-- the request was refused like this, and nothing changed
abbrev pub RefusedIn : NcpFault → Result (Unit {0}) WorldFault → ServiceSeat → Seat → Kept → Seat → ServiceSeat → Kept → Type 0
RefusedIn f r own seat k seat_after after kept = (r ≡ Err (Program f)) × ((seat_after ≡ seat) × ((after ≡ own) × (kept ≡ k)))

-- a server or a user has begun
abbrev pub Begins : (ServicesState → ServiceDeskState → ServicesState × ServiceDeskState) → ServiceSeat → NcpState → Kept → NcpState → ServiceSeat → Kept → Type 0
Begins begun own s k program after kept = IsDone own.host (begun own.services (opening_desk own.host (length k.book.notices) s)) k program after.services kept
