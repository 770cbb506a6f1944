-- What an input is, and why octets are none.
use Rattle.std.specs.Prelude.{◌≢◌, ℕ, ◌<◌, ◌≤◌, List, length, codes, ◌⊎◌, IsUtf8}
use Rattle.std.specs.List.{All}
use Rattle.toml.specs.Errors.{IsBlank}
use Rattle.script.specs.Input.{IsParted}
use Rattle.script.specs.Script.{lines_of}
use Rattle.topology.specs.Topology.{TopologyFields}
use Rattle.command_line.specs.Described.{Describes}
use Rattle.command_line.specs.Events.{Asked, AsksFor, IsFirstBadIn, are_some}
use Rattle.command_line.specs.declared.fault.ScriptFault.{ScriptFault}
use Rattle.command_line.specs.declared.fault.ScriptFault.TheVariants as fault

-- an input: at most 268,435,456 octets, which are this topology, the marker line `%`, and a script of these events
pub record IsInput (octets : List ℕ) (network : TopologyFields) (events : Asked) : Type 0 where
  pub short : length octets ≤ 268435456
  pub document : List ℕ
  pub script : List ℕ
  pub parted : IsParted octets document script
  pub described : Describes document network
  pub asked : AsksFor network.raw (are_some network.strangers) events (lines_of script)

abbrev pub IsSomeInput : List ℕ → Type 0
IsSomeInput octets = (network : TopologyFields) × (events : Asked) × IsInput octets network events

-- all is well up to the script, of which this is the first bad line
pub record HasBadLine (octets : List ℕ) (number : ℕ) : Type 0 where
  pub short : length octets ≤ 268435456
  pub document : List ℕ
  pub script : List ℕ
  pub network : TopologyFields
  pub parted : IsParted octets document script
  pub described : Describes document network
  pub bad : IsFirstBadIn network.raw (are_some network.strangers) script number

-- what precedes the marker line is not UTF-8, or describes no topology
pub record HasBadTopology (octets : List ℕ) : Type 0 where
  pub document : List ℕ
  pub script : List ℕ
  pub parted : IsParted octets document script
  pub unfit : IsUtf8 document → (t : TopologyFields) → ¬ Describes document t

abbrev pub IsNetwork : List ℕ → Type 0
IsNetwork document = (t : TopologyFields) × Describes document t

-- memory is wanted for what precedes the marker line, where that is UTF-8 and isn't blank, and, once it describes a
-- network, for all that follows
pub record WantsMemory (octets : List ℕ) : Type 0 where
  pub document : List ℕ
  pub script : List ℕ
  pub parted : IsParted octets document script
  pub wants : (IsUtf8 document × (¬ IsBlank document)) ⊎ IsNetwork document

-- when each fault may be given for these octets, where no read failed: nothing is written before they are known to be an input
abbrev pub IsInputFault : List ℕ → ScriptFault → Type 0
IsInputFault octets (fault.BadLine number) = HasBadLine octets number
IsInputFault octets fault.TooLong = 268435456 < length octets
IsInputFault octets fault.BadTopology = (All (λ line. line ≢ codes "%") (lines_of octets)) ⊎ HasBadTopology octets
IsInputFault octets fault.CannotRead = ⊥
IsInputFault octets fault.OutOfMemory = WantsMemory octets
IsInputFault octets fault.CannotWrite = IsSomeInput octets
IsInputFault octets fault.BadOptions = ⊥

-- the same where they are read from a reader: memory may run out before any octet is read
abbrev pub IsScriptFault : List ℕ → ScriptFault → Type 0
IsScriptFault octets (fault.BadLine number) = HasBadLine octets number
IsScriptFault octets fault.TooLong = 268435456 < length octets
IsScriptFault octets fault.BadTopology = IsInputFault octets fault.BadTopology
IsScriptFault octets fault.CannotRead = ⊥
IsScriptFault octets fault.OutOfMemory = Unit {0}
IsScriptFault octets fault.CannotWrite = IsSomeInput octets
IsScriptFault octets fault.BadOptions = ⊥
