-- Scripts of worlds: one event a line.
use Rattle.std.specs.Prelude.{Bool, ℕ, List}
use Rattle.script.specs.Script.{AskForAs, IsLineFaultAs}
use Rattle.script.specs.declared.fault.LineFault.{LineFault}
use Rattle.world_script.specs.WorldSpelling.{IsWorldEvent, WantsMemory, world_spelling}
use Rattle.world_script.specs.declared.event.WorldEvent.{WorldEvent}

-- the lines that are not ignored spell these events, in order
abbrev pub AskFor : Bool → List WorldEvent → List (List ℕ) → Type 0
AskFor strangers events lines = AskForAs world_spelling (IsWorldEvent strangers) events lines

-- why a script has no events: its first bad line, or that memory ran out
abbrev pub IsLineFault : Bool → List ℕ → LineFault → Type 0
IsLineFault strangers text f = IsLineFaultAs world_spelling (IsWorldEvent strangers) (WantsMemory strangers) text f
