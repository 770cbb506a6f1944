-- When the lines of a long calm are handed on: as its rounds pass.
use Rattle.std.specs.Prelude.{◌≡◌, ℕ, Bool, true, List, ◌∷◌, ◌++◌, Option, Some, length}
use Rattle.interface.specs.Calls.{Calls}
use Rattle.replay.specs.Seen.{AreSeen, HandsOn, SeenAfter}
use Rattle.script.specs.declared.event.RawEvent.{RawEvent}
use Rattle.topology.specs.Topology.{TopologyFields}
use Rattle.trace.specs.Changes.{members_of}
use Rattle.trace.specs.Elements.{by_round, elements_in}
use Rattle.trace.specs.Texts.{object, opening_line}
use Rattle.trace.specs.Traces.{Inside, TellsEvent, TellsRound, TellsStill, WritesTrace, numbered_from}
use Rattle.trace.specs.declared.element.Element.{Element}
use Rattle.trace.specs.declared.element.Spot.{Spot}

-- of these rounds the one that has this many before it passes, between two states of a carrier and of the writer of
-- its trace
abbrev pub RoundTells : {C W : Type 0} → Calls C → Inside C → Spot → (W → Option (List ℕ)) → List (List Element) → ℕ
    → C × W → C × W → Type 0
RoundTells calls inside spot contents rounds passed old new =
    (before : List (List Element)) × (round : List Element) × (later : List (List Element))
    × (rounds ≡ before ++ round ∷ later) × (length before ≡ passed)
    × WritesTrace (TellsRound calls inside spot old.0 round new.0) (contents old.1) (contents new.1)

-- a still round led here
abbrev pub IsLeftStill : {C : Type 0} → Calls C → Inside C → Spot → C → Type 0
IsLeftStill {C} calls inside spot new =
    (old : C) × (round : List Element) × (lines : List (List ℕ)) × TellsStill calls inside spot old round new lines

-- an event that has these rounds: after each of a long calm the writer has handed on all that was written
abbrev pub RoundsHandOn : {C W : Type 0} → Calls C → Inside C → (W → Option (List ℕ)) → (W → Bool) → Spot
    → List (List Element) → C × W → C × W → Type 0
RoundsHandOn calls inside contents flushed spot rounds old new =
    HandsOn (RoundTells calls inside spot contents rounds) (λ at. flushed at.1 ≡ true)
    (λ at. IsLeftStill calls inside spot at.0) (Some (length rounds)) old new

abbrev pub EventHandsOn : {C W : Type 0} → Calls C → Inside C → (W → Option (List ℕ)) → (W → Bool) → C × W
    → Spot × RawEvent → C × W → Type 0
EventHandsOn calls inside contents flushed old e new =
    RoundsHandOn calls inside contents flushed e.0 (by_round (elements_in (inside.calm old.0) e.1)) old new

-- these events are traced one after the other, and so handed on
abbrev pub EventsAreSeen : {C W : Type 0} → Calls C → Inside C → (W → Option (List ℕ)) → (W → Bool)
    → List (ℕ × RawEvent) → C × W → C × W → Type 0
EventsAreSeen calls inside contents flushed events old new =
    AreSeen (TellsEvent calls inside) (λ line. line) contents (EventHandsOn calls inside contents flushed) old
    (numbered_from 1 events) new

-- after the first line
abbrev pub TraceIsSeen : {C W : Type 0} → Calls C → Inside C → (W → Option (List ℕ)) → (W → Bool) → TopologyFields
    → List (ℕ × RawEvent) → C × W → C × W → Type 0
TraceIsSeen calls inside contents flushed t events old new =
    SeenAfter (opening_line t (object (members_of (inside.members old.0)))) contents
    (EventsAreSeen calls inside contents flushed events) old new
