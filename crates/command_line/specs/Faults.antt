-- How the simulator ends.
use Rattle.std.specs.Prelude.{ℕ, List, ◌++◌, codes}
use Rattle.std.specs.Fmt.{decimal}
use Rattle.replay.specs.declared.events.ReplayFault.{ReplayFault}
use Rattle.replay.specs.declared.events.ReplayFault.TheVariants as replay
use Rattle.command_line.specs.declared.fault.ScriptFault.{ScriptFault}
use Rattle.command_line.specs.declared.fault.ScriptFault.TheVariants as fault

-- the exit status of a fault
abbrev pub status_of : ScriptFault → ℕ
status_of fault.BadOptions = 1
status_of fault.CannotRead = 1
status_of fault.TooLong = 1
status_of fault.BadTopology = 1
status_of (fault.BadLine number) = 2
status_of fault.OutOfMemory = 3
status_of fault.CannotWrite = 3

-- what standard error says of a fault
abbrev pub script_text : ScriptFault → List ℕ
script_text fault.BadOptions = codes "arpasim: bad arguments"
script_text fault.CannotRead = codes "arpasim: cannot read"
script_text fault.TooLong = codes "arpasim: input too long"
script_text fault.BadTopology = codes "arpasim: bad topology"
script_text (fault.BadLine number) = codes "arpasim: bad script line " ++ decimal number
script_text fault.OutOfMemory = codes "arpasim: stopped"
script_text fault.CannotWrite = codes "arpasim: stopped"

-- a fault of a replay, as the simulator reports it
abbrev pub told_as : ReplayFault → ScriptFault
told_as replay.OutOfMemory = fault.OutOfMemory
told_as replay.CannotWrite = fault.CannotWrite
