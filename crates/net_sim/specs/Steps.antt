-- What may happen in a world: one event, and several. Some of its hosts may be strangers, hosts of the carrier without a seat. What a
-- stranger sends is offered to the carrier as it is, and what it takes is written down as a crossing.
use Rattle.std.specs.Prelude.{◌≡◌, ◌⊎◌, Bool, false, not, List, [], ◌∷◌, filter, find, Option, Some, None, Result, Ok, Err}
use Rattle.std.specs.Bool.{MatchBool}
use Rattle.interface.specs.Calls.{Calls, crossing_of}
use Rattle.interface.specs.Host.{Host, is_host}
use Rattle.interface.specs.declared.carrier.CarrierFault.{CarrierFault}
use Rattle.interface.specs.declared.carrier.CarrierFault.TheVariants as fault
use Rattle.interface.specs.declared.crossing.Crossing.TheVariants as crossing
use Rattle.interface.specs.declared.crossing.Inbound.{Inbound}
use Rattle.interface.specs.declared.message.HostMessage.{HostMessage}
use Rattle.net_sim.specs.Book.{opening_kept}
use Rattle.net_sim.specs.World.{Event, Net, Quiet, Offer, Take, Ask, Server, User, Typed, Out, NoProgram, WorldState, WorldFault, Carrier, changed, with_carrier, Does, EventGives, Halts, Passes, Refuses, opening_seats, opening_services, stops}
pub use Rattle.net_sim.specs.declared.strangers.StrangersFault.{StrangersFault}
use Rattle.net_sim.specs.declared.strangers.StrangersFault.TheVariants as absent

-- ---- at first

-- the hosts that run the program, in the carrier's order
abbrev pub with_programs : (Host → Bool) → List Host → List Host
with_programs strange hosts = filter (λ h. not (strange h)) hosts

-- the hosts that aren't among these strangers have seats, over a carrier whose log is empty
abbrev pub opening_among : {C : Type 0} → Calls C → List Host → C → WorldState C
opening_among calls strangers c = record {
  carrier = c;
  strangers = strangers;
  seats = opening_seats (with_programs (λ h. is_host strangers h) (calls.seen c).hosts);
  services = opening_services (with_programs (λ h. is_host strangers h) (calls.seen c).hosts);
  kept = opening_kept;
  stopped = false;
}

-- ---- what a stranger does

-- the carrier took its message, or not. Memory may run out for writing that down
abbrev pub OutEnds : {C : Type 0} → HostMessage → Result (Unit {0}) CarrierFault → C → WorldState C → Result (Unit {0}) WorldFault → WorldState C → Type 0
OutEnds m (Ok done) c old r new = Does (changed c (crossing.Out m ∷ []) old) r new ⊎ Halts c old r new
OutEnds m (Err e) c old r new = Passes e c old r new

-- its message is offered to the carrier as it is
abbrev pub OutGives : {C : Type 0} → Calls C → HostMessage → WorldState C → Result (Unit {0}) WorldFault → WorldState C → Type 0
OutGives {C} calls m old r new = (answer : Result (Unit {0}) CarrierFault) × (c : C) × calls.offers old.carrier m answer c × OutEnds m answer c old r new

-- the carrier gave it something, nothing, or refused
abbrev pub FetchEnds : {C : Type 0} → Result (Option Inbound) CarrierFault → C → WorldState C → Result (Unit {0}) WorldFault → WorldState C → Type 0
FetchEnds (Ok None) c old r new = Does (with_carrier c old) r new
FetchEnds (Ok (Some i)) c old r new = Does (changed c (crossing_of i ∷ []) old) r new ⊎ Halts c old r new
FetchEnds (Err e) c old r new = Passes e c old r new

-- it takes what came for it
abbrev pub FetchGives : {C : Type 0} → Calls C → Host → WorldState C → Result (Unit {0}) WorldFault → WorldState C → Type 0
FetchGives {C} calls h old r new = (answer : Result (Option Inbound) CarrierFault) × (c : C) × calls.takes old.carrier h answer c × FetchEnds answer c old r new

-- ---- one event

abbrev pub strange_in : {C : Type 0} → WorldState C → Host → Bool
strange_in w h = is_host w.strangers h

-- at first, where these of the carrier's hosts are strangers
abbrev pub opening_mixed : {C : Type 0} → Calls C → C → List Host → WorldState C
opening_mixed calls c named = opening_among calls (filter (λ g. is_host named g) (calls.seen c).hosts) c

-- the first of the named hosts that isn't in the network
abbrev pub absent_in : List Host → List Host → Option Host
absent_in hosts named = find (λ h. not (is_host hosts h)) named

-- only hosts of the network can be strangers there; after that memory may run out
abbrev pub OpensAmong : {C : Type 0} → Calls C → C → List Host → Result (WorldState C) StrangersFault → Type 0
OpensAmong calls c named (Ok s) = (absent_in (calls.seen c).hosts named ≡ None) × (s ≡ opening_mixed calls c named)
OpensAmong calls c named (Err (absent.NoSuch h)) = absent_in (calls.seen c).hosts named ≡ Some h
OpensAmong calls c named (Err absent.OutOfMemory) = absent_in (calls.seen c).hosts named ≡ None

-- the host at which something is asked for
abbrev pub asked_at : Event → Option Host
asked_at (Net e) = None
asked_at Quiet = None
asked_at (Take h) = None
asked_at (Offer h) = Some h
asked_at (Ask h q) = Some h
asked_at (Server h listen base) = Some h
asked_at (User h peer listen own) = Some h
asked_at (Typed h line) = Some h
asked_at (Out m) = None

abbrev pub is_strange : (Host → Bool) → Option Host → Bool
is_strange strange None = false
is_strange strange (Some h) = strange h

-- a stranger is asked for nothing, and other hosts with programs, and the network, do as they do
abbrev pub AskedGives : {C : Type 0} → Calls C → WorldState C → Event → Result (Unit {0}) WorldFault → WorldState C → Type 0
AskedGives calls old e r new = MatchBool (is_strange (strange_in old) (asked_at e)) (Refuses NoProgram old r new) (EventGives calls old e r new)

-- but it takes what came for it, and sends what it likes
abbrev pub AmongGives : {C : Type 0} → Calls C → WorldState C → Event → Result (Unit {0}) WorldFault → WorldState C → Type 0
AmongGives calls old (Take h) r new = MatchBool (strange_in old h) (FetchGives calls h old r new) (EventGives calls old (Take h) r new)
AmongGives calls old (Out m) r new = MatchBool (strange_in old m.flow.source) (OutGives calls m old r new) (EventGives calls old (Out m) r new)
AmongGives calls old e r new = AskedGives calls old e r new

-- after memory has run out every event is refused as `Stopped`
abbrev pub StepGives : {C : Type 0} → Calls C → WorldState C → Event → Result (Unit {0}) WorldFault → WorldState C → Type 0
StepGives calls old e r new = MatchBool old.stopped (Refuses (Carrier fault.Stopped) old r new) (AmongGives calls old e r new)

-- ---- several events

-- one event after the other: it continues after a refusal, and ends when memory runs out
abbrev pub Runs : {C : Type 0} → Calls C → WorldState C → List Event → Result (Unit {0}) WorldFault → WorldState C → Type 0
Runs calls old [] r new = Does old r new
Runs {C} calls old (e ∷ events) r new =
    (answer : Result (Unit {0}) WorldFault) × (mid : WorldState C) × StepGives calls old e answer mid × MatchBool (stops answer) ((r ≡ answer) × (new ≡ mid)) (Runs calls mid events r new)

abbrev pub RunGives : {C : Type 0} → Calls C → WorldState C → List Event → Result (Unit {0}) WorldFault → WorldState C → Type 0
RunGives calls old events r new = MatchBool old.stopped (Refuses (Carrier fault.Stopped) old r new) (Runs calls old events r new)
