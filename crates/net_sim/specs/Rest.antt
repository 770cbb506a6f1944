-- Worlds that rest: more of a calm changes nothing there.
use Rattle.std.specs.Prelude.{◌≡◌, false, Result}
use Rattle.interface.specs.Calls.{Calls}
use Rattle.interface.specs.Host.{Host}
use Rattle.net_sim.specs.World.{WorldState, WorldFault, Event, Quiet, Offer, Take, TurnGives, stops}

-- an event may leave the world as it is, and a calm continues after it
pub record Leaves {C : Type 0} (calls : Calls C) (w : WorldState C) (e : Event) : Type 0 where
  pub answer : Result (Unit {0}) WorldFault
  pub step : TurnGives calls w e answer w
  pub continues : stops answer ≡ false

-- a world rests: it hasn't stopped, and each event of a calm may leave it as it is: a quiet round, a taking and an offer of any host
pub record IsAtRest {C : Type 0} (calls : Calls C) (w : WorldState C) : Type 0 where
  pub running : w.stopped ≡ false
  pub round : Leaves calls w Quiet
  pub takings : (h : Host) → Leaves calls w (Take h)
  pub offers : (h : Host) → Leaves calls w (Offer h)
