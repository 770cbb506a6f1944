-- How a topology is read.
use Rattle.std.specs.Prelude.{◌≡◌, List, Option, Some, None, IsSome, Result, Ok, Err, Vec}
use Rattle.std.specs.declared.alloc.Global.{Global}
use Rattle.topology.specs.declared.network.TopologyFault.{TopologyFault}
use Rattle.topology.specs.declared.network.TopologyFault.TheVariants as fault

-- what a document describes is given, or it is informed that the document describes nothing
abbrev pub Described : {X : Type 0} → Option X → Result X TopologyFault → Type 0
Described {X} described (Ok x) = described ≡ Some x
Described {X} described (Err fault.BadTopology) = described ≡ None
Described {X} described (Err fault.OutOfMemory) = Unit {0}

-- the same of a list, which is read into memory
abbrev pub DescribedIn : {X : Type 0} → Option (List X) → Result (Vec X Global) TopologyFault → Type 0
DescribedIn {X} described (Ok v) = described ≡ Some v.items
DescribedIn {X} described (Err fault.BadTopology) = described ≡ None
DescribedIn {X} described (Err fault.OutOfMemory) = Unit {0}

-- memory is wanted only where nothing is refused
abbrev pub MemoryLast : {X Y : Type 0} → Option Y → Result X TopologyFault → Type 0
MemoryLast {X} {Y} described result = result ≡ Err fault.OutOfMemory → IsSome described
