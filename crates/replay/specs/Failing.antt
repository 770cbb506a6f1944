-- When it is informed that something couldn't be written.
use Rattle.std.specs.Prelude.{◌≡◌, Bool, true, false, Result, Ok, Err}
use Rattle.replay.specs.declared.events.ReplayFault.{ReplayFault}
use Rattle.replay.specs.declared.events.ReplayFault.TheVariants as fault

-- an error is answered where a write or a flush failed, and nowhere else
abbrev pub TellsFailure : {T E : Type 0} → Result T E → Bool → Type 0
TellsFailure (Ok done) failed = failed ≡ false
TellsFailure (Err e) failed = failed ≡ true

-- `CannotWrite` is answered where a write or a flush failed, and nowhere else
abbrev pub TellsCannotWrite : {T : Type 0} → Result T ReplayFault → Bool → Type 0
TellsCannotWrite (Ok done) failed = failed ≡ false
TellsCannotWrite (Err fault.OutOfMemory) failed = failed ≡ false
TellsCannotWrite (Err fault.CannotWrite) failed = failed ≡ true
