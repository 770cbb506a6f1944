-- The head of an input: its topology, and the marker line.
use Rattle.std.specs.Prelude.{◌≡◌, ◌≢◌, ◌<◌, ◌++◌, IfSome, List, Option, codes, length, ℕ}
use Rattle.std.specs.List.{All, flat_map}
use Rattle.command_line.specs.declared.fault.ScriptFault.{ScriptFault}
use Rattle.command_line.specs.declared.fault.ScriptFault.TheVariants as fault
use Rattle.script.specs.Input.{IsParted, ended_line}
use Rattle.session.specs.Hearing.{IsLine}

-- whatever follows these octets is the script of an input with this topology
abbrev pub IsHead : List ℕ → List ℕ → Type 0
IsHead head document = (script : List ℕ) → IsParted (head ++ script) document script

-- no line of these octets is a marker line with its end
pub record HasNoMarker (octets : List ℕ) : Type 0 where
  pub lines : List (List ℕ)
  pub last : List ℕ
  pub are : All IsLine lines × IsLine last
  pub parts : octets ≡ flat_map ended_line lines ++ last
  pub unmarked : All (λ line. line ≢ codes "%") lines

-- why no head was heard. Memory may run out, and reads and writes may fail, at any octets
abbrev pub HasNoHead : List ℕ → ScriptFault → Type 0
HasNoHead octets fault.BadTopology = HasNoMarker octets
HasNoHead octets fault.TooLong = 268435456 < length octets
HasNoHead octets fault.CannotRead = Unit {0}
HasNoHead octets fault.OutOfMemory = Unit {0}
HasNoHead octets fault.CannotWrite = Unit {0}
HasNoHead octets (fault.BadLine number) = ⊥
HasNoHead octets fault.BadOptions = ⊥

-- no head was heard of a reader's octets, where these are known
abbrev pub WasNoHead : Option (List ℕ) → ScriptFault → Type 0
WasNoHead known f = (f ≢ fault.CannotWrite) × (f ≢ fault.BadOptions) × IfSome known (λ octets. HasNoHead octets f)
