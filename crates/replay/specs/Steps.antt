-- What the contracts of private functions say. No public clause cites this file.
use Rattle.std.specs.Prelude.{◌≡◌, ℕ, List, ◌++◌, Option, Result, Ok, Err}
use Rattle.std.specs.Io.KnownBytes.{Appends}
use Rattle.interface.specs.Calls.{Calls, Seen}
use Rattle.interface.specs.declared.CarrierFault.{CarrierFault}
use Rattle.interface.specs.declared.crossing.Crossing.{Crossing}
use Rattle.replay.specs.Output.{Shown, Writes, output, shown_crossings, shown_refusal}
use Rattle.replay.specs.Replay.{GoesOn, Halts, Happens, MayDo, StopsIn}
use Rattle.replay.specs.declared.events.ReplayFault.{ReplayFault}
use Rattle.replay.specs.declared.events.ReplayFault.TheVariants as fault
use Rattle.replay.specs.declared.print.Detail.{Detail}
use Rattle.script.specs.declared.event.RawEvent.{RawEvent}

-- a log that only grew, between the same hosts
pub record Grew (old new : Seen) : Type 0 where
  pub crossings : List Crossing
  pub grown : new.log ≡ crossings ++ old.log
  pub hosts : new.hosts ≡ old.hosts

-- crossings were printed, and after them a refusal, or memory had run out
abbrev pub PrintEnds : Detail → List Crossing → Result (Unit {0}) CarrierFault → Result (Unit {0}) ReplayFault → Option (List ℕ) → Option (List ℕ) → Type 0
PrintEnds detail crossings outcome (Ok done) before after = GoesOn outcome × Appends before after (output detail (shown_crossings crossings ++ shown_refusal outcome))
PrintEnds detail crossings outcome (Err fault.OutOfMemory) before after = Halts outcome × Appends before after (output detail (shown_crossings crossings))
PrintEnds detail crossings outcome (Err fault.CannotWrite) before after = Unit {0}

-- how the replay of one event may end
abbrev pub EventEnds : {C : Type 0} → Calls C → Detail → C → RawEvent → Result (Unit {0}) ReplayFault → C → Option (List ℕ) → Option (List ℕ) → Type 0
EventEnds {C} calls detail old e (Ok done) new before after = Writes detail (Happens calls old e new) before after
EventEnds {C} calls detail old e (Err fault.OutOfMemory) new before after = Writes detail (StopsIn calls old e new) before after
EventEnds {C} calls detail old e (Err fault.CannotWrite) new before after = (shown : List Shown) × MayDo calls old e new shown
