-- What the contracts of private functions say. No public clause cites this file.
use Rattle.std.specs.Prelude.{ℕ, List}
use Rattle.command_line.specs.declared.fault.ScriptFault.{ScriptFault}
use Rattle.command_line.specs.declared.fault.ScriptFault.TheVariants as fault

-- the faults of a topology
abbrev pub IsNetworkFault : ScriptFault → Type 0
IsNetworkFault fault.BadTopology = Unit {0}
IsNetworkFault fault.TooLong = ⊥
IsNetworkFault fault.OutOfMemory = Unit {0}
IsNetworkFault fault.BadOptions = ⊥
IsNetworkFault fault.CannotRead = ⊥
IsNetworkFault fault.CannotWrite = ⊥
IsNetworkFault (fault.BadLine number) = ⊥

-- the faults of reading octets
abbrev pub IsReadFault : ScriptFault → Type 0
IsReadFault fault.TooLong = Unit {0}
IsReadFault fault.BadTopology = ⊥
IsReadFault fault.CannotRead = Unit {0}
IsReadFault fault.OutOfMemory = Unit {0}
IsReadFault fault.BadOptions = ⊥
IsReadFault fault.CannotWrite = ⊥
IsReadFault (fault.BadLine number) = ⊥

-- the faults of a replay
abbrev pub IsReplayFault : ScriptFault → Type 0
IsReplayFault fault.OutOfMemory = Unit {0}
IsReplayFault fault.CannotWrite = Unit {0}
IsReplayFault fault.BadTopology = ⊥
IsReplayFault fault.TooLong = ⊥
IsReplayFault fault.CannotRead = ⊥
IsReplayFault fault.BadOptions = ⊥
IsReplayFault (fault.BadLine number) = ⊥

-- the faults of reading a script, by which line is its first bad one
abbrev pub IsEventsFault : (List ℕ → ℕ → Type 0) → List ℕ → ScriptFault → Type 0
IsEventsFault IsBad text (fault.BadLine number) = IsBad text number
IsEventsFault IsBad text fault.OutOfMemory = Unit {0}
IsEventsFault IsBad text fault.BadTopology = ⊥
IsEventsFault IsBad text fault.TooLong = ⊥
IsEventsFault IsBad text fault.BadOptions = ⊥
IsEventsFault IsBad text fault.CannotRead = ⊥
IsEventsFault IsBad text fault.CannotWrite = ⊥
