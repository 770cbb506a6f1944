-- How a call on packets answers.
use Rattle.std.specs.Prelude.{◌≡◌, Result, Ok, Err, IsOk}
use Rattle.packetiser.specs.declared.fault.PacketFault.{PacketFault}
use Rattle.packetiser.specs.declared.fault.PacketFault.TheVariants as fault

-- a call that answers `said`; it can find no memory only where nothing else refuses it
abbrev pub Gives : {T : Type 0} → Result T PacketFault → Result T PacketFault → Type 0
Gives said (Ok x) = said ≡ Ok x
Gives said (Err fault.OutOfMemory) = IsOk said
Gives said (Err e) = said ≡ Err e

-- a call that gives a value with this property, or finds no memory; nothing else refuses it
abbrev pub GivesIfMemory : {T : Type 0} → (T → Type 0) → Result T PacketFault → Type 0
GivesIfMemory HasGiven (Ok x) = HasGiven x
GivesIfMemory HasGiven (Err fault.OutOfMemory) = Unit {0}
GivesIfMemory HasGiven (Err e) = ⊥
