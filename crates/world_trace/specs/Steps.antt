-- What the contracts of private functions say. No public clause cites this file.
use Rattle.std.specs.Prelude.{◌≡◌, ℕ, ◌≤◌, false, true, if◌then◌else◌, is_some, List, [], ◌∷◌, ◌++◌, Bool, Option, Some, None, Result, Ok, Err, codes, drop, length, map, reverse}
use Rattle.std.specs.Fmt.{decimal}
use Rattle.std.specs.List.{flat_map}
use Rattle.interface.specs.declared.crossing.Crossing.{Crossing}
use Rattle.net_sim.specs.World.{WorldState}
use Rattle.net_sim.specs.declared.event.Event.{Event}
use Rattle.net_sim.specs.declared.event.Event.TheVariants as net
use Rattle.net_sim.specs.declared.seat.Seat.{Seat}
use Rattle.net_sim.specs.declared.seat.ServiceSeat.{ServiceSeat}
use Rattle.interface.specs.Host.{Host, same_host}
use Rattle.interface.specs.Calls.{Calls}
use Rattle.replay.specs.InTurn.{Happening}
use Rattle.replay.specs.declared.events.ReplayFault.{ReplayFault}
use Rattle.replay.specs.declared.events.ReplayFault.TheVariants as fault
use Rattle.trace.specs.Traces.{WritesTrace}
use Rattle.host_pairs.specs.declared.entry.Entry.{Entry}
use Rattle.icp.specs.User.{UserState}
use Rattle.trace.specs.Texts.{array, bits_members, bool_text, crossing_object, member, object, quoted}
use Rattle.world_replay.specs.Printed.{kind_text}
use Rattle.replay.specs.declared.print.Detail.TheVariants.{Sizes}
use Rattle.world_replay.specs.Output.{Shown, output}
use Rattle.world_replay.specs.Replay.{Happens, HappensInCalm}
use Rattle.world_replay.specs.Rounds.{Again, EndsAgain, EndsRound, turn_of}
use Rattle.world_trace.specs.Texts.{allocation_object, asked_object, closings_object, ends_object, event_text, line_of, lines_text, number_text, requests_object, seat_member, services_member, sockets_object}
use Rattle.world_script.specs.declared.event.WorldEvent.{WorldEvent}
use Rattle.world_script.specs.declared.event.WorldEvent.TheVariants as world
use Rattle.world_trace.specs.declared.calm.CalmEvent.{CalmEvent}
use Rattle.world_trace.specs.declared.calm.CalmEvent.TheVariants as calm
use Rattle.world_trace.specs.declared.line.Passed.{Passed}
use Rattle.world_trace.specs.declared.texts.Texts.{Texts}
use Rattle.world_trace.specs.declared.texts.Changes.{Changes}
use Rattle.trace.specs.Changes.{changed, changed_parts, members_of}
use Rattle.world_trace.specs.Traces.{EndsAt, MayTell, StopsOne, TellsAt, TellsInCalm, TellsOne, TellsRound}
use Rattle.trace.specs.declared.element.Spot.{Spot}
use Rattle.trace.specs.declared.all_parts.AllParts.{AllParts}

-- ---- lists

-- what is printed of a list whose items have these texts: this before the first, and a comma before each other one
abbrev pub marked : List ℕ → List (List ℕ) → List ℕ
marked mark [] = []
marked mark (x ∷ xs) = mark ++ (x ++ flat_map (λ y. codes "," ++ y) xs)

-- what comes before the item after these
abbrev pub mark_after : List ℕ → List (List ℕ) → List ℕ
mark_after mark [] = mark
mark_after mark (x ∷ xs) = codes ","

-- ---- the pieces of an end and of a user

abbrev pub end_sockets : Entry → List ℕ
end_sockets e = codes "{\"socket\":" ++ (decimal e.own ++ (codes ",\"foreign\":" ++ (decimal e.foreign ++ (codes ",\"kind\":" ++ (quoted (kind_text e.own) ++ (codes ",\"mine\":" ++ bool_text e.mine))))))

abbrev pub end_state : Entry → List ℕ
end_state e = codes ",\"requests\":" ++ (requests_object e ++ (codes ",\"closing\":" ++ (closings_object e ++ (codes ",\"link\":" ++ (number_text e.link ++ (codes ",\"size\":" ++ number_text e.size))))))

abbrev pub end_data : Entry → List ℕ
end_data e = codes ",\"allocation\":" ++ (allocation_object e.allocation ++ (codes ",\"waiting\":" ++ (object (bits_members e.bits) ++ codes "}")))

abbrev pub user_sockets : UserState → List ℕ
user_sockets u = codes "{\"kind\":\"user\",\"asked\":" ++ (asked_object u ++ (codes ",\"sockets\":" ++ (sockets_object u.receive u.send ++ (codes ",\"opened\":" ++ ends_object u))))

abbrev pub user_rest : UserState → List ℕ
user_rest u = codes ",\"base\":" ++ (number_text u.base ++ (codes ",\"came\":" ++ (object (bits_members u.bits) ++ (codes ",\"over\":" ++ (bool_text u.over ++ codes "}")))))

-- ---- lines

-- the beginning of a line, up to its event
abbrev pub head_text : Spot → ℕ → List ℕ → List ℕ
head_text spot round event = codes "{\"line\":" ++ (decimal spot.line ++ (codes ",\"number\":" ++ (decimal spot.number ++ (codes ",\"round\":" ++ (decimal round ++ (codes ",\"event\":\"" ++ event))))))

-- what crossed and what was printed, after an event
abbrev pub outcome_text : List Crossing → List ℕ → List ℕ
outcome_text crossings printed = codes "\",\"crossed\":" ++ (array (map crossing_object crossings) ++ (codes ",\"printed\":" ++ lines_text printed))

-- objects of programs and of services after the parts, and the end of the line
abbrev pub hosts_text : List (List ℕ) → List (List ℕ) → List ℕ
hosts_text programs services = codes ",\"programs\":" ++ (object programs ++ (codes ",\"services\":" ++ (object services ++ codes "}\n")))

-- and the object of the parts before them
abbrev pub ended_state : List (List ℕ) → List (List ℕ) → List (List ℕ) → List ℕ
ended_state parts programs services = object parts ++ hosts_text programs services

-- all of a state so
abbrev pub whole_end : {C : Type 0} → (C → AllParts) → WorldState C → List ℕ
whole_end members w = ended_state (members_of (members w.carrier)) (map seat_member w.seats) (map services_member w.services)

-- these are the texts of a state
pub record AreTextsOf {C : Type 0} (members : C → AllParts) (w : WorldState C) (t : Texts) : Type 0 where
  pub parts : t.parts ≡ members w.carrier
  pub programs : t.programs ≡ map seat_member w.seats
  pub services : t.services ≡ map services_member w.services

-- these objects are what of these is other than before
pub record AreChanged (old new : Texts) (c : Changes) : Type 0 where
  pub parts : c.parts.items ≡ object (changed_parts old.parts new.parts)
  pub programs : c.programs.items ≡ object (changed old.programs new.programs)
  pub services : c.services.items ≡ object (changed old.services new.services)

-- and the end of a line with them
abbrev pub changed_end : Changes → List ℕ
changed_end c = c.parts.items ++ (codes ",\"programs\":" ++ (c.programs.items ++ (codes ",\"services\":" ++ (c.services.items ++ codes "}\n"))))

-- ---- what is at hosts

abbrev pub seat_place : Seat → Host
seat_place s = s.host

abbrev pub service_place : ServiceSeat → Host
service_place s = s.host

-- something is at a host, if there is one
abbrev pub at_host : {T : Type 0} → (T → Host) → Option Host → T → Bool
at_host place None x = false
at_host place (Some h) x = same_host h (place x)

-- these are the texts of all but some of these items
abbrev pub AreOthers : {T : Type 0} → (T → Bool) → (T → List ℕ) → List (List ℕ) → List T → Type 0
AreOthers may text [] [] = Unit {0}
AreOthers may text [] (x ∷ items) = ⊥
AreOthers may text (t ∷ texts) [] = ⊥
AreOthers may text (t ∷ texts) (x ∷ items) = (may x ≡ false → text x ≡ t) × AreOthers may text texts items

-- ---- what happens

-- an event happened, and a replay prints this text for it
abbrev pub Shows : {C : Type 0} → Calls C → WorldState C → WorldEvent → WorldState C → List ℕ → Type 0
Shows calls old e new text = (lines : List Shown) × Happens calls old e new lines × (text ≡ output Sizes lines)

-- the same of an event of a calm
abbrev pub ShowsInCalm : {C : Type 0} → Calls C → WorldState C → Event → WorldState C → List ℕ → Type 0
ShowsInCalm calls old e new text = (lines : List Shown) × HappensInCalm calls old e new lines × (text ≡ output Sizes lines)

-- what of a state is other than before, by these objects
pub record AreChanges {C : Type 0} (members : C → AllParts) (old new : WorldState C) (parts programs services : List ℕ) : Type 0 where
  pub parts_are : parts ≡ object (changed_parts (members old.carrier) (members new.carrier))
  pub programs_are : programs ≡ object (changed (map seat_member old.seats) (map seat_member new.seats))
  pub services_are : services ≡ object (changed (map services_member old.services) (map services_member new.services))

-- three objects of a state
abbrev pub state_objects : List ℕ → List ℕ → List ℕ → List (List ℕ)
state_objects parts programs services = member (codes "parts") parts ∷ member (codes "programs") programs ∷ member (codes "services") services ∷ []

-- an event that is no calm happened, and these are the texts of its line, with this many crossings in the book before it
pub record HasPassed {C : Type 0} (calls : Calls C) (members : C → AllParts) (old : WorldState C) (e : Event) (new : WorldState C) (p : Passed) : Type 0 where
  pub event : p.event.items ≡ event_text (world.Happen e)
  pub shows : Shows calls old (world.Happen e) new p.printed.items
  pub crossed : p.crossed ≡ length old.kept.book.crossings
  pub few : p.crossed ≤ length new.kept.book.crossings
  pub changes : AreChanges members old new p.changes.parts.items p.changes.programs.items p.changes.services.items

-- the line of an event that has passed, without its end
abbrev pub passed_line : {C : Type 0} → Spot → ℕ → WorldState C → Passed → List ℕ
passed_line spot round new p =
    line_of spot round p.event.items (drop p.crossed (reverse new.kept.book.crossings)) p.printed.items (state_objects p.changes.parts.items p.changes.programs.items p.changes.services.items)

-- ---- events of a script

-- the host at which an event is, if it is at one
abbrev pub at_one : Event → Option Host
at_one (net.Offer h) = Some h
at_one (net.Take h) = Some h
at_one (net.Ask h q) = Some h
at_one (net.Server h listen base) = Some h
at_one (net.User h peer listen own) = Some h
at_one (net.Typed h line) = Some h
at_one e = None

-- it is inside the network, or to a host, and may change what is at several hosts
abbrev pub is_of_network : Event → Bool
is_of_network (net.Net e) = true
is_of_network e = false

-- ---- events of a calm

abbrev pub event_of : CalmEvent → Event
event_of calm.Quiet = net.Quiet
event_of (calm.Take h) = net.Take h
event_of (calm.Offer h) = net.Offer h

-- the host at which it is
abbrev pub host_of : CalmEvent → Option Host
host_of calm.Quiet = None
host_of (calm.Take h) = Some h
host_of (calm.Offer h) = Some h

-- with how often they happen at most
abbrev pub turn : CalmEvent × ℕ → Event × ℕ
turn t = (event_of t.0, t.1)

-- those of a host, if it is up
abbrev pub turns_at : Seat → List (Event × ℕ)
turns_at seat = if is_some seat.program then turn_of seat.host else []

-- all that is printed of a state is as before
pub record IsAsBefore {C : Type 0} (members : C → AllParts) (old new : WorldState C) : Type 0 where
  pub parts : members new.carrier ≡ members old.carrier
  pub seats : new.seats ≡ old.seats
  pub services : new.services ≡ old.services
  pub kept : new.kept ≡ old.kept

-- after an event of a calm it is, if nothing crossed by it
abbrev pub IsStill : {C : Type 0} → Calls C → (C → AllParts) → WorldState C → Event → Type 0
IsStill {C} calls members old e =
    (new : WorldState C) (shown : List Shown) → HappensInCalm calls old e new shown → length new.kept.book.crossings ≤ length old.kept.book.crossings → IsAsBefore members old new

-- ---- endings

-- how something may end that happens, or in which memory runs out or a write fails
abbrev pub EndsAs : {S E : Type 0} → Happening S E (List ℕ) → Happening S E (List ℕ) → Happening S E (List ℕ) → S → E → Result (Unit {0}) ReplayFault → S → Option (List ℕ) → Option (List ℕ) → Type 0
EndsAs Happens Stops Fails old e (Ok done) new before after = WritesTrace (Happens old e new) before after
EndsAs Happens Stops Fails old e (Err fault.OutOfMemory) new before after = WritesTrace (Stops old e new) before after
EndsAs Happens Stops Fails old e (Err fault.CannotWrite) new before after = (lines : List (List ℕ)) × Fails old e new lines

-- an event that is no calm
abbrev pub OneEnds : {C : Type 0} → Calls C → (C → AllParts) → Spot → WorldState C → Event → Result (Unit {0}) ReplayFault → WorldState C → Option (List ℕ) → Option (List ℕ) → Type 0
OneEnds calls members spot old e r new before after = EndsAs (λ old e new lines. TellsOne calls members spot 0 old (world.Happen e) new lines) (StopsOne calls) (MayTell calls) old e r new before after

-- an event of a calm, once, and again and again
abbrev pub StepEnds : {C : Type 0} → Calls C → (C → AllParts) → Spot → ℕ → WorldState C → Event → Result (Unit {0}) ReplayFault → WorldState C → Option (List ℕ) → Option (List ℕ) → Type 0
StepEnds calls members spot round old e r new before after = EndsAs (TellsInCalm calls members spot round) (StopsOne calls) (MayTell calls) old e r new before after

abbrev pub AgainEnds : {C : Type 0} → Calls C → (C → AllParts) → Spot → ℕ → WorldState C → Event × ℕ → Result (Unit {0}) ReplayFault → WorldState C → Option (List ℕ) → Option (List ℕ) → Type 0
AgainEnds calls members spot round old e r new before after =
    EndsAs (Again (TellsInCalm calls members spot round)) (EndsAgain (TellsInCalm calls members spot round) (StopsOne calls)) (EndsAgain (TellsInCalm calls members spot round) (MayTell calls)) old e r new before after

-- a round, by its number
abbrev pub EndsRoundAt : {C : Type 0} → Calls C → (C → AllParts) → Spot → Happening (WorldState C) Event (List ℕ) → Happening (WorldState C) ℕ (List ℕ)
EndsRoundAt calls members spot Goes old round new lines = EndsRound (TellsInCalm calls members spot round) Goes old new lines

abbrev pub RoundEnds : {C : Type 0} → Calls C → (C → AllParts) → Spot → WorldState C → ℕ → Result (Unit {0}) ReplayFault → WorldState C → Option (List ℕ) → Option (List ℕ) → Type 0
RoundEnds calls members spot old round r new before after = EndsAs (TellsRound calls members spot) (EndsRoundAt calls members spot (StopsOne calls)) (EndsRoundAt calls members spot (MayTell calls)) old round r new before after

-- any event
abbrev pub EventEnds : {C : Type 0} → Calls C → (C → AllParts) → Spot → WorldState C → WorldEvent → Result (Unit {0}) ReplayFault → WorldState C → Option (List ℕ) → Option (List ℕ) → Type 0
EventEnds calls members spot old e r new before after = EndsAs (TellsAt calls members spot) (EndsAt calls members (StopsOne calls) spot) (EndsAt calls members (MayTell calls) spot) old e r new before after
