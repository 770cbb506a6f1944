-- Words for worked examples.
use Rattle.std.specs.Prelude.{◌≡◌, ◌^◌, ℕ, false, true, List, [], ◌∷◌, Ok, Some, replicate}
use Rattle.host_services.specs.Services.{no_services}
use Rattle.host_services.specs.declared.service.Service.{Service}
use Rattle.host_services.specs.declared.service.Service.TheVariants as service
use Rattle.interface.specs.Calls.{Calls, Seen}
use Rattle.interface.specs.declared.crossing.Crossing.{Crossing}
use Rattle.interface.specs.declared.message.HostMessage.{HostMessage}
use Rattle.net_sim.specs.World.{WorldState}
use Rattle.net_sim.specs.WorkedStrangers.{beside_third}
use Rattle.net_sim.specs.declared.event.Event.{Event}
use Rattle.net_sim.specs.declared.seat.Seat.{Seat}
use Rattle.net_sim.specs.declared.seat.ServiceSeat.{ServiceSeat}
use Rattle.replay.specs.InTurn.{Happening}
use Rattle.replay.specs.Worked.{counting}
use Rattle.sockets.specs.Pairs.{opening_state}
use Rattle.sockets.specs.Worked.{first, third}
use Rattle.terminal.specs.Machines.{opening_echo}
use Rattle.trace.specs.declared.all_parts.AllParts.{AllParts}
use Rattle.trace.specs.declared.element.Spot.{Spot}
use Rattle.world_replay.specs.Worked.{went}
use Rattle.world_trace.specs.MixedTraces.{TellsMixed}
use Rattle.world_script.specs.declared.event.WorldEvent.TheVariants as world
use Rattle.world_trace.specs.Texts.{event_text, line_of}
use Rattle.world_trace.specs.Traces.{change_of}

-- ---- carriers whose calls are counted (`replay`'s `counting`), each with one thing otherwise

-- events of the network aren't counted
abbrev pub counting_rounds : Calls ℕ
counting_rounds = record counting { steps = λ old event r new. (r ≡ Ok tt) × (new ≡ old) }

-- a message goes out with each call
abbrev pub crossing_always : Calls ℕ
crossing_always = record counting { seen = λ calls. record { hosts = []; log = replicate calls went; stopped = false } }

-- ---- hosts whose program or service has run out of memory, and hosts with numbers that are too long for a decimal

abbrev pub spent_seat : Seat
spent_seat = record { host = first; program = Some (record (opening_state first) { spent = true }) }

abbrev pub spent_echo : Service
spent_echo = service.Echo (record (opening_echo 100 101) { spent = true })

abbrev pub spent_services : ServiceSeat
spent_services = record { host = first; services = record no_services { running = spent_echo ∷ [] } }

-- a socket of 65 digits listens
abbrev pub long_seat : Seat
long_seat = record { host = first; program = Some (record (opening_state first) { listening = record { socket = 10 ^ 64; size = 8 } ∷ [] }) }

-- typed lines go to one
abbrev pub long_services : ServiceSeat
long_services = record { host = first; services = record no_services { typing = Some (10 ^ 64) } }

-- ---- beside a stranger

-- the third host says one bit to the first, on link 5
abbrev pub short_message : HostMessage
short_message = record { flow = record { source = third; destination = first; link = record { 0 = 5 } }; text = true ∷ [] }

-- an event beside the third host has one line: these messages cross, and this is printed
abbrev pub TracesOnly : Calls Seen → Event → List Crossing → List ℕ → Type 0
TracesOnly calls e crossings printed =
    (members : Seen → AllParts) (spot : Spot) (new : WorldState Seen) (lines : List (List ℕ))
    → TellsMixed calls members spot beside_third e new lines
    → lines ≡ line_of spot 0 (event_text (world.Happen e)) crossings printed (change_of members beside_third new) ∷ []

-- an event shows where it is, whatever it is
abbrev pub PrintsSpot : Spot → Happening ℕ ℕ (List ℕ)
PrintsSpot spot old e new lines = lines ≡ (spot.line ∷ spot.number ∷ []) ∷ []
