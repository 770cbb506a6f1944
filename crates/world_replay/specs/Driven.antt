-- A world's carrier is the network that its hosts drive: which calls of it each event of a world makes, and what crosses by them.
use Rattle.std.specs.Prelude.{◌≡◌, ◌⊎◌, List, [], ◌∷◌, ◌++◌, Option, None, Some, Result, reverse}
use Rattle.std.specs.List.{All}
use Rattle.std.specs.Option.{option_and_then, option_map, option_to_list}
use Rattle.interface.specs.Calls.{Calls, IsFor, Seen, crossing_of, step_crossings}
use Rattle.interface.specs.Host.{Host}
use Rattle.interface.specs.declared.CarrierFault.{CarrierFault}
use Rattle.interface.specs.declared.Inbound.{Inbound}
use Rattle.interface.specs.declared.crossing.Crossing.{Crossing}
use Rattle.interface.specs.declared.crossing.Crossing.TheVariants as crossing
use Rattle.net_sim.specs.World.{WorldState, seat_of}
use Rattle.net_sim.specs.declared.event.Event.{Event}
use Rattle.net_sim.specs.declared.event.Event.TheVariants.{Net, Offer, Quiet, Take}
use Rattle.net_sim.specs.declared.seat.Seat.{Seat}
use Rattle.replay.specs.InTurn.{Happening, InTurn}
use Rattle.replay.specs.Output.{Refused, Shown, crossings_of, shown_crossings, shown_refusal}
use Rattle.replay.specs.Replay.{GoesOn, Happens, IsOneCall}
use Rattle.script.specs.declared.event.RawEvent.{RawEvent}
use Rattle.script.specs.declared.event.RawEvent.TheVariants as raw
use Rattle.sockets.specs.Pairs.{NcpState}
use Rattle.sockets.specs.Sending.{next_out}
use Rattle.world_replay.specs.Replay.{IsOfCalm, quiet_rounds}
use Rattle.world_script.specs.declared.event.WorldEvent.{WorldEvent}
use Rattle.world_script.specs.declared.event.WorldEvent.TheVariants as script

-- a call of a carrier: an event of a raw network, or a quiet round
pub data Drive : Type 0 where
  Raw : (event : RawEvent) → Drive
  Round : Drive

abbrev pub IsCall : Drive → Type 0
IsCall (Raw e) = IsOneCall e
IsCall Round = Unit {0}

-- ---- how a call goes

-- what crosses by one that is done, where this was seen of the carrier before it: a message that is offered goes out; what is for a host comes
-- to it, if anything waits; and hosts stop and start as an event of the network says
abbrev pub Brings : Seen → RawEvent → List Crossing → Type 0
Brings seen (raw.Out m) crossings = crossings ≡ crossing.Out m ∷ []
Brings seen (raw.Take h) crossings = (crossings ≡ []) ⊎ ((i : Inbound) × IsFor h i × (crossings ≡ crossing_of i ∷ []))
Brings seen (raw.Net e) crossings = crossings ≡ reverse (step_crossings seen e)
Brings seen (raw.Calm rounds) crossings = ⊥

-- it shows that, or only that it was refused
abbrev pub IsShown : Seen → RawEvent → List Shown → Type 0
IsShown seen e shown = ((crossings : List Crossing) × Brings seen e crossings × (shown ≡ shown_crossings crossings)) ⊎ ((f : CarrierFault) × (shown ≡ Refused f ∷ []))

-- in a quiet round nothing crosses
abbrev pub Goes : {C : Type 0} → Calls C → Happening C Drive Shown
Goes calls old (Raw e) new shown = Happens calls old e new shown × IsShown (calls.seen old) e shown
Goes calls old Round new shown = (answer : Result (Unit {0}) CarrierFault) × calls.rounds old answer new × GoesOn answer × (shown ≡ shown_refusal answer)

-- ---- one event of a world

-- the program of a host that is up
abbrev pub program_of : Host → List Seat → Option NcpState
program_of h seats = option_and_then (λ s. s.program) (seat_of h seats)

-- the call that an event makes, by what the hosts' programs are before it, if it makes one. A host offers what its program has to send next. One
-- that is down, or isn't there, offers and takes nothing. What users ask for, and servers and users that begin, make no call
abbrev pub call_of : List Seat → Event → Option Drive
call_of seats (Net e) = Some (Raw (raw.Net e))
call_of seats Quiet = Some Round
call_of seats (Offer h) = option_map (λ m. Raw (raw.Out m)) (option_and_then next_out (program_of h seats))
call_of seats (Take h) = option_map (λ s. Raw (raw.Take h)) (program_of h seats)
call_of seats e = None

-- an event of a world drives its carrier by these calls
pub record IsDriven {C : Type 0} (calls : Calls C) (old : WorldState C) (e : Event) (new : WorldState C) (drives : List Drive) : Type 0 where
  pub makes : drives ≡ option_to_list (call_of old.seats e)
  -- they lead from the carrier before the event to the carrier after it, and what crosses by them is what the book gains
  pub shown : List Shown
  pub goes : InTurn (Goes calls) old.carrier drives new.carrier shown
  pub crossed : new.kept.book.crossings ≡ reverse (crossings_of shown) ++ old.kept.book.crossings

-- ---- scripts

-- the events that an event of a script is: a calm is quiet rounds of the network, one for each of its rounds, takings and offers
abbrev pub IsCourse : WorldEvent → List Event → Type 0
IsCourse (script.Happen e) events = events ≡ e ∷ []
IsCourse (script.Calm rounds) events = All IsOfCalm events × (quiet_rounds events ≡ rounds)

-- an event of a script drives a world's carrier, event by event
abbrev pub IsDrivenIn : {C : Type 0} → Calls C → Happening (WorldState C) WorldEvent Drive
IsDrivenIn calls old e new drives = (events : List Event) × IsCourse e events × InTurn (IsDriven calls) old events new drives

-- a world's carrier was driven by these calls, one after another, and what crossed by them is what its book gained
pub record Drives {C : Type 0} (calls : Calls C) (old new : WorldState C) (drives : List Drive) : Type 0 where
  pub calls_only : All IsCall drives
  pub shown : List Shown
  pub goes : InTurn (Goes calls) old.carrier drives new.carrier shown
  pub crossed : new.kept.book.crossings ≡ reverse (crossings_of shown) ++ old.kept.book.crossings
