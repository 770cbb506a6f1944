-- The events of a world's script over a carrier, whatever it is made of, and what they show.
use Rattle.std.specs.Prelude.{◌≡◌, ℕ, zero, suc, true, false, List, [], ◌∷◌, Result}
use Rattle.net_sim.specs.Rest.{IsAtRest}
use Rattle.net_sim.specs.Steps.{StepGives}
use Rattle.net_sim.specs.World.{WorldState, TurnGives, CalmGives, stops}
use Rattle.net_sim.specs.declared.event.Event.{Event}
use Rattle.net_sim.specs.declared.event.Event.TheVariants.{Offer, Quiet, Take}
use Rattle.interface.specs.Calls.{Calls}
use Rattle.net_sim.specs.declared.event.WorldFault.{WorldFault}
use Rattle.world_replay.specs.Gains.{Gains, gained}
use Rattle.world_replay.specs.Kinds.{EndsBy, HappensBy, Kind, MayDoBy, ReplaysBy, StopsBy}
use Rattle.world_replay.specs.Output.{Shown}
use Rattle.world_script.specs.declared.event.WorldEvent.{WorldEvent}
use Rattle.world_script.specs.declared.event.WorldEvent.TheVariants as event

-- how one event may go: the world before, the event, whether it was refused, and the world after
abbrev pub EventGives : {C : Type 0} → Calls C → WorldState C → WorldEvent → Result (Unit {0}) WorldFault
    → WorldState C → Type 0
EventGives calls old (event.Happen e) r new = StepGives calls old e r new
EventGives calls old (event.Calm rounds) r new = CalmGives calls rounds old r new

abbrev pub world_kind : {C : Type 0} → Calls C → Kind (WorldState C)
world_kind {C} calls = record {
  kept = λ (w : WorldState C). w.kept;
  gives = EventGives calls;
  rests = IsAtRest calls;
}

-- one event happens, refused or not, and shows what its world's book gained, and then its refusal
abbrev pub Happens : {C : Type 0} → Calls C → WorldState C → WorldEvent → WorldState C → List Shown → Type 0
Happens calls old e new shown = HappensBy (world_kind calls) old e new shown

-- the events happen one after the other, and show these lines together
abbrev pub Replays : {C : Type 0} → Calls C → WorldState C → List WorldEvent → WorldState C → List Shown → Type 0
Replays calls old events new shown = ReplaysBy (world_kind calls) old events new shown

-- the rounds of a calm as calms of one round
abbrev pub rounds_of : ℕ → List WorldEvent
rounds_of zero = []
rounds_of (suc rounds) = event.Calm 1 ∷ rounds_of rounds

-- ---- a calm, event by event

-- the events of calms: quiet rounds of the network, and takings and offers of hosts
abbrev pub IsOfCalm : Event → Type 0
IsOfCalm Quiet = Unit {0}
IsOfCalm (Take h) = Unit {0}
IsOfCalm (Offer h) = Unit {0}
IsOfCalm e = ⊥

-- how many of these events are quiet rounds of the network
abbrev pub quiet_rounds : List Event → ℕ
quiet_rounds [] = 0
quiet_rounds (Quiet ∷ events) = suc (quiet_rounds events)
quiet_rounds (e ∷ events) = quiet_rounds events

-- an event happens in a calm, in which strangers do nothing, and shows what its world's book gained, and no refusal
pub record HappensInCalm {C : Type 0} (calls : Calls C) (old : WorldState C) (e : Event) (new : WorldState C) (shown : List Shown) : Type 0 where
  pub outcome : Result (Unit {0}) WorldFault
  pub gives : TurnGives calls old e outcome new
  pub goes_on : stops outcome ≡ false
  pub gains : Gains old.kept new.kept
  pub lines : shown ≡ gained gains

-- ---- a replay that ends early, in one of its events

-- memory ran out at this event: a calm shows what its world's book gained before that, and a single event nothing
abbrev pub StopsIn : {C : Type 0} → Calls C → WorldState C → WorldEvent → WorldState C → List Shown → Type 0
StopsIn calls old e new shown = StopsBy (world_kind calls) old e new shown

-- at an event of a calm, which shows nothing then
pub record StopsInCalm {C : Type 0} (calls : Calls C) (old : WorldState C) (e : Event) (new : WorldState C) (shown : List Shown) : Type 0 where
  pub outcome : Result (Unit {0}) WorldFault
  pub gives : TurnGives calls old e outcome new
  pub stops : stops outcome ≡ true
  pub gains : Gains old.kept new.kept
  pub lines : shown ≡ gained gains

-- the world processed this event, or the first rounds of a calm, and may have answered anything; how much was written of what it showed the writer
-- only knows
abbrev pub MayDo : {C : Type 0} → Calls C → WorldState C → WorldEvent → WorldState C → List Shown → Type 0
MayDo calls old e new shown = MayDoBy (world_kind calls) old e new shown

-- the world processed this event of a calm, whatever it answered
abbrev pub MayStep : {C : Type 0} → Calls C → WorldState C → Event → WorldState C → Type 0
MayStep calls old e new = (outcome : Result (Unit {0}) WorldFault) × TurnGives calls old e outcome new

-- the events before the last one happened, the last one went as is said, and these lines were shown by then
abbrev pub EndsIn : {C : Type 0} → Calls C → (WorldState C → WorldEvent → WorldState C → List Shown → Type 0)
    → WorldState C → List WorldEvent → WorldState C → List Shown → Type 0
EndsIn calls Goes old events new shown = EndsBy (world_kind calls) Goes old events new shown
