-- Hosts with their programs over a carrier, whatever it is made of, and each event of them.
use Rattle.std.specs.Prelude.{◌≡◌, ◌⊎◌, ℕ, ◌||◌, Bool, true, false, if◌then◌else◌, zero, suc, List, [], ◌∷◌, map, filter, length, find, nat_lt, Option, Some, None, Result, Ok, Err, is_some}
use Rattle.std.specs.Bool.{MatchBool}
use Rattle.std.specs.List.{list_any}
use Rattle.interface.specs.Calls.{Calls, Seen, crossing_of, step_crossings, is_memory, is_halt}
use Rattle.interface.specs.Host.{Host, same_host}
use Rattle.interface.specs.declared.carrier.CarrierFault.{CarrierFault}
use Rattle.interface.specs.declared.carrier.CarrierFault.TheVariants as fault
use Rattle.interface.specs.declared.crossing.Crossing.{Crossing}
use Rattle.interface.specs.declared.crossing.Crossing.TheVariants as crossing
use Rattle.interface.specs.declared.crossing.Inbound.{Inbound}
use Rattle.interface.specs.declared.event.NetEvent.{NetEvent}
use Rattle.interface.specs.declared.message.HostMessage.{HostMessage}
pub use Rattle.net_sim.specs.declared.event.Event.{Event}
pub use Rattle.net_sim.specs.declared.event.Event.TheVariants.{Net, Quiet, Offer, Take, Ask, Server, User, Typed, Out}
pub use Rattle.net_sim.specs.declared.event.WorldFault.{WorldFault}
pub use Rattle.net_sim.specs.declared.event.WorldFault.TheVariants.{Carrier, Program, NoProgram, HasProgram}
pub use Rattle.net_sim.specs.declared.seat.Seat.{Seat}
pub use Rattle.net_sim.specs.declared.seat.ServiceSeat.{ServiceSeat}
use Rattle.host_services.specs.Services.{ServicesState, ServiceDeskState, no_services, opening_desk}
use Rattle.host_services.specs.Turns as services
use Rattle.host_services.specs.TypedLines.{line_bits}
use Rattle.sockets.specs.Accepting.{accepted}
use Rattle.sockets.specs.Pairs.{NcpState, opening_state}
use Rattle.sockets.specs.Requests.{refusal, served, served_notices}
use Rattle.sockets.specs.Sending.{next_out, offered}
use Rattle.sockets.specs.declared.fault.NcpFault.{NcpFault}
use Rattle.sockets.specs.declared.fault.NcpFault.TheVariants as problem
use Rattle.host_pairs.specs.declared.notice.Notice.{Notice}
use Rattle.sockets.specs.declared.request.Request.{Request}
use Rattle.sockets.specs.declared.request.Request.TheVariants as request
use Rattle.net_sim.specs.Book.{Kept, opening_kept, crossed, all_crossed, all_told, asked, all_asked, all_reported}

-- ---- the hosts

abbrev pub opening_seats : List Host → List Seat
opening_seats hosts = map (λ h. record { host = h; program = Some (opening_state h) }) hosts

abbrev pub seat_of : Host → List Seat → Option Seat
seat_of h seats = find (λ s. same_host h s.host) seats

abbrev pub has_seat : Host → List Seat → Bool
has_seat h seats = list_any (λ s. same_host h s.host) seats

abbrev pub with_program : Bool → Option NcpState → Seat → Seat
with_program here program s = if here then record { host = s.host; program = program } else s

-- a host's program is now this one
abbrev pub seated : Host → Option NcpState → List Seat → List Seat
seated h program seats = map (λ s. with_program (same_host h s.host) program s) seats

-- a host that stops loses its program, and one that starts has a new one
abbrev pub seats_turned : Crossing → List Seat → List Seat
seats_turned (crossing.Down h) seats = seated h None seats
seats_turned (crossing.Up h) seats = seated h (Some (opening_state h)) seats
seats_turned c seats = seats

-- several crossings, newest first
abbrev pub all_turned : List Crossing → List Seat → List Seat
all_turned [] seats = seats
all_turned (c ∷ cs) seats = seats_turned c (all_turned cs seats)

-- ---- what runs on the hosts

-- at first no services run
abbrev pub opening_services : List Host → List ServiceSeat
opening_services hosts = map (λ h. record { host = h; services = no_services }) hosts

abbrev pub services_in : Option ServiceSeat → ServicesState
services_in None = no_services
services_in (Some s) = s.services

abbrev pub services_of : Host → List ServiceSeat → ServicesState
services_of h all = services_in (find (λ s. same_host h s.host) all)

abbrev pub with_services : Bool → ServicesState → ServiceSeat → ServiceSeat
with_services here services s = if here then record { host = s.host; services = services } else s

-- a host's services are now these
abbrev pub serviced : Host → ServicesState → List ServiceSeat → List ServiceSeat
serviced h services all = map (λ s. with_services (same_host h s.host) services s) all

-- a host that stops loses its services
abbrev pub emptied : Crossing → List ServiceSeat → List ServiceSeat
emptied (crossing.Down h) all = serviced h no_services all
emptied c all = all

-- several crossings, newest first
abbrev pub all_emptied : List Crossing → List ServiceSeat → List ServiceSeat
all_emptied [] all = all
all_emptied (c ∷ cs) all = emptied c (all_emptied cs all)

-- ---- the world

-- the carrier, those of its hosts that are strangers, the other hosts in the carrier's order, what runs on them, what is kept of
-- them, and whether running out of memory has stopped all. A stranger has no seat, and runs anything
pub record WorldState (C : Type 0) : Type 0 where
  pub carrier : C
  pub strangers : List Host
  pub seats : List Seat
  pub services : List ServiceSeat
  pub kept : Kept
  pub stopped : Bool

-- over a carrier whose log is empty, with no strangers
abbrev pub opening_world : {C : Type 0} → Calls C → C → WorldState C
opening_world calls c = record {
  carrier = c;
  strangers = [];
  seats = opening_seats (calls.seen c).hosts;
  services = opening_services (calls.seen c).hosts;
  kept = opening_kept;
  stopped = false;
}

-- the carrier is as a call left it, and nothing else changed
abbrev pub with_carrier : {C : Type 0} → C → WorldState C → WorldState C
with_carrier c w = record w { carrier = c }

-- after crossings of the network itself, newest first
abbrev pub changed : {C : Type 0} → C → List Crossing → WorldState C → WorldState C
changed c crossings w = record w {
  carrier = c;
  seats = all_turned crossings w.seats;
  services = all_emptied crossings w.services;
  kept = all_crossed crossings w.kept;
}

-- ---- what services do in a step

-- how many notices are in the book
abbrev pub noticed : {C : Type 0} → WorldState C → ℕ
noticed w = length w.kept.book.notices

-- what they asked for was served, and they reported this
abbrev pub done_by : Host → ServiceDeskState → Kept → Kept
done_by h d k = all_reported d.reports (all_asked h d.asked k)

-- the services of a host are notified of this by its program, notice by notice, where this many notices were in the book before
abbrev pub turn_of : Host → ℕ → ServicesState → NcpState × List Notice → ServicesState × ServiceDeskState
turn_of h before s turn = services.services_told turn.1 s (opening_desk h before turn.0)

-- after the services of a host had their turns: they, the host's program, what they asked for, and what they reported
abbrev pub tended : {C : Type 0} → Host → ServicesState × ServiceDeskState → WorldState C → WorldState C
tended h t w = record w {
  seats = seated h (Some t.1.program) w.seats;
  services = serviced h t.0 w.services;
  kept = done_by h t.1 w.kept;
}

-- a host's program is now this one and gave these notices, which go into the book, and then to the host's services one by one. What
-- they ask for is asked at once
abbrev pub world_heard : {C : Type 0} → Host → NcpState × List Notice → WorldState C → WorldState C
world_heard h turn w = tended h (turn_of h (noticed w) (services_of h w.services) turn) (record w { kept = all_told h turn.1 w.kept })

-- this crossed, the host's program is now this one and gave these notices, and the world's carrier is now this one
abbrev pub world_moved : {C : Type 0} → C → Host → Crossing → NcpState × List Notice → WorldState C → WorldState C
world_moved c h x turn w = world_heard h turn (record w { carrier = c; kept = crossed x w.kept })

-- after something that a user asked for
abbrev pub served_at : {C : Type 0} → Host → Request → NcpState → WorldState C → WorldState C
served_at h r s w = world_heard h (served s r, served_notices s r) (record w { kept = asked h r w.kept })

-- a server and a user begin on a host
abbrev pub with_server : {C : Type 0} → Host → ℕ → ℕ → NcpState → WorldState C → WorldState C
with_server h listen base s w = tended h (services.server_begun listen base (services_of h w.services) (opening_desk h (noticed w) s)) w

abbrev pub with_user : {C : Type 0} → Host → Host → ℕ → ℕ → NcpState → WorldState C → WorldState C
with_user h peer listen own s w = tended h (services.user_begun peer listen own (services_of h w.services) (opening_desk h (noticed w) s)) w

-- ---- how an event ends

abbrev pub wants_memory : WorldFault → Bool
wants_memory (Carrier f) = is_memory f
wants_memory (Program problem.OutOfMemory) = true
wants_memory (Program f) = false
wants_memory NoProgram = false
wants_memory HasProgram = false

-- an answer that only a world with strangers gives
abbrev pub is_of_strangers : Result (Unit {0}) WorldFault → Bool
is_of_strangers (Ok done) = false
is_of_strangers (Err (Carrier f)) = false
is_of_strangers (Err (Program f)) = false
is_of_strangers (Err NoProgram) = true
is_of_strangers (Err HasProgram) = true

-- it is refused, and nothing changes
abbrev pub Refuses : {C : Type 0} → WorldFault → WorldState C → Result (Unit {0}) WorldFault → WorldState C → Type 0
Refuses f old r new = (r ≡ Err f) × (new ≡ old)

-- the call succeeds, and this is the world after it
abbrev pub Does : {C : Type 0} → WorldState C → Result (Unit {0}) WorldFault → WorldState C → Type 0
Does done r new = (r ≡ Ok tt) × (new ≡ done)

-- running out of memory stops the world, with its carrier as its last call left it. What is kept stays as it was
pub record Halts {C : Type 0} (c : C) (old : WorldState C) (r : Result (Unit {0}) WorldFault) (new : WorldState C) : Type 0 where
  pub fault : WorldFault
  pub answer : r ≡ Err fault
  pub memory : wants_memory fault ≡ true
  pub carrier : new.carrier ≡ c
  pub strangers : new.strangers ≡ old.strangers
  pub kept : new.kept ≡ old.kept
  pub stopped : new.stopped ≡ true

-- the carrier refused: so does the world, and running out of memory stops both
abbrev pub Passes : {C : Type 0} → CarrierFault → C → WorldState C → Result (Unit {0}) WorldFault → WorldState C → Type 0
Passes e c old r new = (r ≡ Err (Carrier e)) × (new ≡ record old { carrier = c; stopped = is_memory e })

-- ---- one event

-- the carrier took the message, or not
abbrev pub OfferEnds : {C : Type 0} → Host → NcpState → HostMessage → Result (Unit {0}) CarrierFault → C → WorldState C → Result (Unit {0}) WorldFault → WorldState C → Type 0
OfferEnds h s m (Ok done) c old r new = Does (world_moved c h (crossing.Out m) (offered s (length old.kept.book.crossings)) old) r new ⊎ Halts c old r new
OfferEnds h s m (Err e) c old r new = Passes e c old r new

-- a host's next message goes out, if it has one. Memory may run out before the carrier is asked
abbrev pub OfferGives : {C : Type 0} → Calls C → Host → NcpState → Option HostMessage → WorldState C → Result (Unit {0}) WorldFault → WorldState C → Type 0
OfferGives calls h s None old r new = Does old r new
OfferGives {C} calls h s (Some m) old r new =
    Halts old.carrier old r new ⊎ ((answer : Result (Unit {0}) CarrierFault) × (c : C) × calls.offers old.carrier m answer c × OfferEnds h s m answer c old r new)

-- the carrier gave something, nothing, or refused
abbrev pub TakeEnds : {C : Type 0} → Host → NcpState → Result (Option Inbound) CarrierFault → C → WorldState C → Result (Unit {0}) WorldFault → WorldState C → Type 0
TakeEnds h s (Ok None) c old r new = Does (with_carrier c old) r new
TakeEnds h s (Ok (Some i)) c old r new = Does (world_moved c h (crossing_of i) (accepted s i (length old.kept.book.crossings)) old) r new ⊎ Halts c old r new
TakeEnds h s (Err e) c old r new = Passes e c old r new

abbrev pub TakeGives : {C : Type 0} → Calls C → Host → NcpState → WorldState C → Result (Unit {0}) WorldFault → WorldState C → Type 0
TakeGives {C} calls h s old r new = (answer : Result (Option Inbound) CarrierFault) × (c : C) × calls.takes old.carrier h answer c × TakeEnds h s answer c old r new

-- what the network's own event did is written down, and memory may run out for that only where something crossed
abbrev pub NetEnds : {C : Type 0} → Seen → NetEvent → Result (Unit {0}) CarrierFault → C → WorldState C → Result (Unit {0}) WorldFault → WorldState C → Type 0
NetEnds seen e (Ok done) c old r new = Does (changed c (step_crossings seen e) old) r new ⊎ ((step_crossings seen e ≡ [] → ⊥) × Halts c old r new)
NetEnds seen e (Err f) c old r new = Passes f c old r new

abbrev pub QuietEnds : {C : Type 0} → Result (Unit {0}) CarrierFault → C → WorldState C → Result (Unit {0}) WorldFault → WorldState C → Type 0
QuietEnds (Ok done) c old r new = Does (with_carrier c old) r new
QuietEnds (Err f) c old r new = Passes f c old r new

-- a user's request is refused by the program, or served
abbrev pub AskGives : {C : Type 0} → Host → Request → NcpState → Option NcpFault → WorldState C → Result (Unit {0}) WorldFault → WorldState C → Type 0
AskGives h q s (Some f) old r new = Refuses (Program f) old r new
AskGives h q s None old r new = Does (served_at h q s old) r new ⊎ Halts old.carrier old r new

-- a line goes to the socket of the terminal that came last, as a request to send it. Without a terminal it is refused
abbrev pub TypeGives : {C : Type 0} → Host → List ℕ → NcpState → Option ℕ → WorldState C → Result (Unit {0}) WorldFault → WorldState C → Type 0
TypeGives h line s None old r new = Refuses (Program problem.NotOpen) old r new
TypeGives h line s (Some socket) old r new = AskGives h (request.Send socket (line_bits line)) s (refusal s (request.Send socket (line_bits line))) old r new

-- something is done, unless memory runs out
abbrev pub DoesOrHalts : {C : Type 0} → WorldState C → WorldState C → Result (Unit {0}) WorldFault → WorldState C → Type 0
DoesOrHalts done old r new = Does done r new ⊎ Halts old.carrier old r new

-- what only a stranger sends
abbrev pub is_sent : Event → Bool
is_sent (Out m) = true
is_sent e = false

-- only strangers send what no program says: why it is refused of another
abbrev pub unsaid : HostMessage → List Seat → WorldFault
unsaid m seats = if has_seat m.flow.source seats then HasProgram else Carrier fault.NoSuch

-- a host that isn't there and one that is down are refused before anything else
abbrev pub AtProgram : {C : Type 0} → (NcpState → Type 0) → Option NcpState → WorldState C → Result (Unit {0}) WorldFault → WorldState C → Type 0
AtProgram Gives None old r new = Refuses (Carrier fault.IsDown) old r new
AtProgram Gives (Some s) old r new = Gives s

abbrev pub AtSeat : {C : Type 0} → (NcpState → Type 0) → Option Seat → WorldState C → Result (Unit {0}) WorldFault → WorldState C → Type 0
AtSeat Gives None old r new = Refuses (Carrier fault.NoSuch) old r new
AtSeat Gives (Some seat) old r new = AtProgram Gives seat.program old r new

-- at a host with a program, or in the network
abbrev pub EventGives : {C : Type 0} → Calls C → WorldState C → Event → Result (Unit {0}) WorldFault → WorldState C → Type 0
EventGives {C} calls old (Net e) r new = (answer : Result (Unit {0}) CarrierFault) × (c : C) × calls.steps old.carrier e answer c × NetEnds (calls.seen old.carrier) e answer c old r new
EventGives {C} calls old Quiet r new = (answer : Result (Unit {0}) CarrierFault) × (c : C) × calls.rounds old.carrier answer c × QuietEnds answer c old r new
EventGives calls old (Offer h) r new = AtSeat (λ s. OfferGives calls h s (next_out s) old r new) (seat_of h old.seats) old r new
EventGives calls old (Take h) r new = AtSeat (λ s. TakeGives calls h s old r new) (seat_of h old.seats) old r new
EventGives calls old (Ask h q) r new = AtSeat (λ s. AskGives h q s (refusal s q) old r new) (seat_of h old.seats) old r new
EventGives calls old (Server h listen base) r new = AtSeat (λ s. DoesOrHalts (with_server h listen base s old) old r new) (seat_of h old.seats) old r new
EventGives calls old (User h peer listen own) r new = AtSeat (λ s. DoesOrHalts (with_user h peer listen own s old) old r new) (seat_of h old.seats) old r new
EventGives calls old (Typed h line) r new = AtSeat (λ s. TypeGives h line s (services_of h old.services).typing old r new) (seat_of h old.seats) old r new
EventGives calls old (Out m) r new = Refuses (unsaid m old.seats) old r new

-- an event as those of a calm are, in which strangers have no turn: at one it is refused, as at a host that isn't there. After memory has
-- run out every event is refused as `Stopped`
abbrev pub TurnGives : {C : Type 0} → Calls C → WorldState C → Event → Result (Unit {0}) WorldFault → WorldState C → Type 0
TurnGives calls old e r new = MatchBool old.stopped (Refuses (Carrier fault.Stopped) old r new) (EventGives calls old e r new)

-- ---- a calm

abbrev pub stops : Result (Unit {0}) WorldFault → Bool
stops (Ok done) = false
stops (Err (Carrier f)) = is_memory f || is_halt f
stops (Err f) = wants_memory f

-- an event again and again, at most this many times, until nothing crosses by it
abbrev pub Repeats : {C : Type 0} → Calls C → Event → ℕ → WorldState C → Result (Unit {0}) WorldFault → WorldState C → Type 0
Repeats calls e zero old r new = Does old r new
Repeats {C} calls e (suc times) old r new =
    (answer : Result (Unit {0}) WorldFault) × (mid : WorldState C) × TurnGives calls old e answer mid
    × MatchBool (stops answer) ((r ≡ answer) × (new ≡ mid))
    (MatchBool (nat_lt (length old.kept.book.crossings) (length mid.kept.book.crossings)) (Repeats calls e times mid r new) (Does mid r new))

-- each of these hosts takes up to 16 times, and then offers up to 32 times
abbrev pub TurnsOf : {C : Type 0} → Calls C → List Host → WorldState C → Result (Unit {0}) WorldFault → WorldState C → Type 0
TurnsOf calls [] old r new = Does old r new
TurnsOf {C} calls (h ∷ hosts) old r new =
    (first : Result (Unit {0}) WorldFault) × (taken : WorldState C) × Repeats calls (Take h) 16 old first taken
    × MatchBool (stops first) ((r ≡ first) × (new ≡ taken))
    ((second : Result (Unit {0}) WorldFault) × (sent : WorldState C) × Repeats calls (Offer h) 32 taken second sent
    × MatchBool (stops second) ((r ≡ second) × (new ≡ sent)) (TurnsOf calls hosts sent r new))

-- the hosts that are up, in order
abbrev pub up_in : List Seat → List Host
up_in seats = map (λ s. s.host) (filter (λ s. is_some s.program) seats)

-- this many times: a quiet round, and then each host that is up
abbrev pub Calms : {C : Type 0} → Calls C → ℕ → WorldState C → Result (Unit {0}) WorldFault → WorldState C → Type 0
Calms calls zero old r new = Does old r new
Calms {C} calls (suc times) old r new =
    (first : Result (Unit {0}) WorldFault) × (quiet : WorldState C) × TurnGives calls old Quiet first quiet
    × MatchBool (stops first) ((r ≡ first) × (new ≡ quiet))
    ((second : Result (Unit {0}) WorldFault) × (turned : WorldState C) × TurnsOf calls (up_in quiet.seats) quiet second turned
    × MatchBool (stops second) ((r ≡ second) × (new ≡ turned)) (Calms calls times turned r new))

abbrev pub CalmGives : {C : Type 0} → Calls C → ℕ → WorldState C → Result (Unit {0}) WorldFault → WorldState C → Type 0
CalmGives calls times old r new = MatchBool old.stopped (Refuses (Carrier fault.Stopped) old r new) (Calms calls times old r new)
