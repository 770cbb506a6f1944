-- Words for worked examples of what a world with a stranger continues after, and what it ends at. Hosts `first` and `second` run the
-- program, and `third` runs anything.
use Rattle.std.specs.Prelude.{◌≡◌, List, None, Ok, Err, Result}
use Rattle.interface.specs.Calls.{Calls, Seen, ShowsOffer, ShowsTake}
use Rattle.interface.specs.declared.carrier.CarrierFault.TheVariants as fault
use Rattle.interface.specs.declared.message.HostMessage.{HostMessage}
use Rattle.net_sim.specs.Steps.{RunGives, StepGives}
use Rattle.net_sim.specs.Worked.{any_carrier}
use Rattle.net_sim.specs.WorkedStrangers.{beside_third}
use Rattle.net_sim.specs.World.{WorldState}
use Rattle.net_sim.specs.declared.event.Event.{Event}
use Rattle.net_sim.specs.declared.event.Event.TheVariants.{Out}
use Rattle.net_sim.specs.declared.event.WorldFault.{WorldFault}
use Rattle.world_script.specs.declared.event.WorldEvent.{WorldEvent}
use Rattle.world_script.specs.declared.event.WorldEvent.TheVariants.{Happen}

-- what a script may ask for in any world, and what a stranger says
abbrev pub event : Event → WorldEvent
event e = Happen e

abbrev pub saying : HostMessage → WorldEvent
saying m = Happen (Out m)

-- a carrier that has nothing for anybody, one that takes no message, and one that has no memory for a message
abbrev pub empty_carrier : Calls Seen
empty_carrier = record any_carrier { takes = λ old h r new. (r ≡ Ok None) × ShowsTake old h r new }

abbrev pub closed_carrier : Calls Seen
closed_carrier = record any_carrier { offers = λ old m r new. (r ≡ Err fault.Blocked) × ShowsOffer old m r new }

abbrev pub tired_carrier : Calls Seen
tired_carrier = record any_carrier { offers = λ old m r new. (r ≡ Err fault.OutOfMemory) × ShowsOffer old m r new }

-- an event is answered so, and nothing but the carrier changes
abbrev pub AnswersAs : Calls Seen → Event → Result (Unit {0}) WorldFault → Type 0
AnswersAs calls e answer =
    (r : Result (Unit {0}) WorldFault) (new : WorldState Seen) → StepGives calls beside_third e r new
    → (r ≡ answer) × (new ≡ record beside_third { carrier = new.carrier })

-- a list of events ends so
abbrev pub EndsAs : Calls Seen → List Event → Result (Unit {0}) WorldFault → Type 0
EndsAs calls events answer =
    (r : Result (Unit {0}) WorldFault) (new : WorldState Seen) → RunGives calls beside_third events r new → r ≡ answer
