-- How a call that may refuse answers.
use Rattle.std.specs.Prelude.{◌≡◌, Option, Some, None, Result, Ok, Err}
use Rattle.bit_messages.specs.declared.fault.BitFault.{BitFault}
use Rattle.bit_messages.specs.declared.fault.BitFault.TheVariants as fault

-- a call that is refused for `refusal`, and else gives a value with this property: running out of memory comes last
abbrev pub Decided : {T : Type 0} → Option BitFault → (T → Type 0) → Result T BitFault → Type 0
Decided refusal Gives (Ok x) = (refusal ≡ None) × Gives x
Decided refusal Gives (Err fault.OutOfMemory) = refusal ≡ None
Decided refusal Gives (Err e) = refusal ≡ Some e
