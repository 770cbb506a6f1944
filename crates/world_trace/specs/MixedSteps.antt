-- What the contracts of private functions say of worlds with strangers. No public clause cites this file.
use Rattle.std.specs.Prelude.{◌≡◌, ℕ, ◌≤◌, if◌then◌else◌, List, ◌++◌, Option, Result, codes}
use Rattle.std.specs.Prelude.{length, map}
use Rattle.interface.specs.Calls.{Calls}
use Rattle.net_sim.specs.World.{WorldState}
use Rattle.net_sim.specs.declared.event.Event.{Event}
use Rattle.replay.specs.declared.events.ReplayFault.{ReplayFault}
use Rattle.replay.specs.declared.print.Detail.TheVariants.{Sizes}
use Rattle.trace.specs.Changes.{members_of}
use Rattle.trace.specs.Texts.{array, object}
use Rattle.trace.specs.declared.all_parts.AllParts.{AllParts}
use Rattle.trace.specs.declared.element.Spot.{Spot}
use Rattle.world_replay.specs.Output.{Shown, output}
use Rattle.world_replay.specs.Replay.{Happens}
use Rattle.world_script.specs.declared.event.WorldEvent.{WorldEvent}
use Rattle.world_trace.specs.MixedTraces.{MayTellMixed, MixedEndsAt, StopsMixed, TellsMixed, TellsMixedAt}
use Rattle.world_trace.specs.MixedTraces.{stranger_text}
use Rattle.world_trace.specs.Steps.{AreChanges, EndsAs, at_one, is_of_network}
use Rattle.world_script.specs.declared.event.WorldEvent.TheVariants as world
use Rattle.world_trace.specs.Texts.{event_text, seat_member, services_member}
use Rattle.world_trace.specs.Traces.{MayTell, StopsOne}
use Rattle.world_trace.specs.declared.line.Passed.{Passed}
use Rattle.world_trace.specs.declared.mixed.Reach.{Reach}
use Rattle.world_trace.specs.declared.mixed.Reach.TheVariants as reach

-- ---- the first line

-- programs, services and strangers after the parts, and the end of the line
abbrev pub foreign_text : List (List ℕ) → List (List ℕ) → List (List ℕ) → List ℕ
foreign_text programs services strangers =
    codes ",\"programs\":"
    ++ (object
    programs ++ (codes
    ",\"services\":" ++ (object services ++ (codes ",\"foreign\":" ++ (array strangers ++ codes "}\n")))))

-- those of a state
abbrev pub mixed_hosts : {C : Type 0} → WorldState C → List ℕ
mixed_hosts s = foreign_text (map seat_member s.seats) (map services_member s.services)
    (map stranger_text s.strangers)

-- after the parts of its carrier
abbrev pub mixed_end : {C : Type 0} → (C → AllParts) → WorldState C → List ℕ
mixed_end members s = object (members_of (members s.carrier)) ++ mixed_hosts s

-- ---- an event that is no calm

-- what it may change beside parts of the carrier
abbrev pub mixed_reach : Event → Reach
mixed_reach e = if is_of_network e then reach.All else reach.At (at_one e)

-- it happened, and a replay prints this text for it
abbrev pub ShowsMixed : {C : Type 0} → Calls C → WorldState C → Event → WorldState C → List ℕ → Type 0
ShowsMixed calls old e new text = (lines : List Shown) × Happens calls old (world.Happen e) new lines
    × (text ≡ output Sizes lines)

-- and these are the texts of its line, with this many crossings in the book before it
pub record HasPassedMixed {C : Type 0} (calls : Calls C) (members : C → AllParts) (old : WorldState C) (e : Event)
    (new : WorldState C) (p : Passed) : Type 0 where
  pub event : p.event.items ≡ event_text (world.Happen e)
  pub shows : ShowsMixed calls old e new p.printed.items
  pub crossed : p.crossed ≡ length old.kept.book.crossings
  pub few : p.crossed ≤ length new.kept.book.crossings
  pub changes : AreChanges members old new p.changes.parts.items p.changes.programs.items
      p.changes.services.items

-- ---- endings

abbrev pub MixedEnds : {C : Type 0} → Calls C → (C → AllParts) → Spot → WorldState C → Event
    → Result (Unit {0}) ReplayFault → WorldState C → Option (List ℕ) → Option (List ℕ) → Type 0
MixedEnds calls members spot old e r new before after = EndsAs (TellsMixed calls members spot) (StopsMixed calls)
    (MayTellMixed calls) old e r new before after

-- any event
abbrev pub EventEndsAmong : {C : Type 0} → Calls C → (C → AllParts) → Spot → WorldState C → WorldEvent
    → Result (Unit {0}) ReplayFault → WorldState C → Option (List ℕ) → Option (List ℕ) → Type 0
EventEndsAmong calls members spot old e r new before after =
    EndsAs (TellsMixedAt calls members spot) (MixedEndsAt calls members (StopsOne calls) (StopsMixed calls) spot)
    (MixedEndsAt calls members (MayTell calls) (MayTellMixed calls) spot) old e r new before after
