-- The events of a script over anything that keeps a book, and what they show. `Replay` says the same of worlds.
use Rattle.std.specs.Prelude.{◌≡◌, ℕ, ◌≤◌, true, false, List, [], ◌++◌, Option, Some, None, Result}
use Rattle.net_sim.specs.Book.{Kept}
use Rattle.net_sim.specs.World.{stops}
use Rattle.net_sim.specs.declared.event.WorldFault.{WorldFault}
use Rattle.replay.specs.InTurn.{EndsInTurn, Happening, InTurn}
use Rattle.world_replay.specs.Gains.{Gains, gained}
use Rattle.world_replay.specs.Output.{Shown, shown_refusal}
use Rattle.world_script.specs.declared.event.WorldEvent.{WorldEvent}
use Rattle.world_script.specs.declared.event.WorldEvent.TheVariants as script

-- a kind of world, as a replay sees it
pub record Kind (S : Type 0) : Type 1 where
  -- what is kept of a world
  pub kept : S → Kept
  -- how one event may go: the world before, the event, whether it was refused, and the world after
  pub gives : S → WorldEvent → Result (Unit {0}) WorldFault → S → Type 0
  -- the world rests
  pub rests : S → Type 0

-- how many rounds an event has that is a calm
abbrev pub rounds_in : WorldEvent → Option ℕ
rounds_in (script.Happen e) = None
rounds_in (script.Calm rounds) = Some rounds

-- ---- events that happen

-- one event happens, refused or not, and shows what its world's book gained, each notice after the crossings that were before
-- it and each report after its notice, and then its refusal. Of a single event these are its crossings and then its notices with
-- their reports, and of a calm those of each of its events in turn, without the refusals
pub record HappensBy {S : Type 0} (kind : Kind S) (old : S) (e : WorldEvent) (new : S) (shown : List Shown) : Type 0 where
  pub outcome : Result (Unit {0}) WorldFault
  pub gives : kind.gives old e outcome new
  pub goes_on : stops outcome ≡ false
  pub gains : Gains (kind.kept old) (kind.kept new)
  pub lines : shown ≡ gained gains ++ shown_refusal outcome

-- the events happen one after the other, and show these lines together
abbrev pub ReplaysBy : {S : Type 0} → Kind S → S → List WorldEvent → S → List Shown → Type 0
ReplaysBy kind old events new shown = InTurn (HappensBy kind) old events new shown

-- ---- a replay that ends early, in one of its events

-- memory ran out at this event: a calm shows what its world's book gained before that, and a single event nothing
pub record StopsBy {S : Type 0} (kind : Kind S) (old : S) (e : WorldEvent) (new : S) (shown : List Shown) : Type 0 where
  pub outcome : Result (Unit {0}) WorldFault
  pub gives : kind.gives old e outcome new
  pub stops : stops outcome ≡ true
  pub gains : Gains (kind.kept old) (kind.kept new)
  pub lines : shown ≡ gained gains

-- the first rounds of a calm of this many; any other event is whole
abbrev pub Begins : WorldEvent → WorldEvent → Type 0
Begins (script.Happen e) first = first ≡ script.Happen e
Begins (script.Calm rounds) first = (fewer : ℕ) × (first ≡ script.Calm fewer) × (fewer ≤ rounds)

-- the world processed this event, or the first rounds of a calm, and may have answered anything; how much was written of what it showed the writer
-- only knows
pub record MayDoBy {S : Type 0} (kind : Kind S) (old : S) (e : WorldEvent) (new : S) (shown : List Shown) : Type 0 where
  pub processed : WorldEvent
  pub begins : Begins e processed
  pub outcome : Result (Unit {0}) WorldFault
  pub gives : kind.gives old processed outcome new
  pub unknown : shown ≡ []

-- the events before the last one happened, the last one went as is said, and these lines were shown by then
abbrev pub EndsBy : {S : Type 0} → Kind S → Happening S WorldEvent Shown → S → List WorldEvent → S → List Shown → Type 0
EndsBy kind Goes old events new shown = EndsInTurn (HappensBy kind) Goes old events new shown

-- memory ran out at the last one, or a write failed at it
abbrev pub RunsOutBy : {S : Type 0} → Kind S → S → List WorldEvent → S → List Shown → Type 0
RunsOutBy kind old events new shown = EndsBy kind (StopsBy kind) old events new shown

abbrev pub BreaksOffBy : {S : Type 0} → Kind S → S → List WorldEvent → S → List Shown → Type 0
BreaksOffBy kind old events new shown = EndsBy kind (MayDoBy kind) old events new shown
