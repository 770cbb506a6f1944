-- How a call of a machine ends.
use Rattle.std.specs.Prelude.{◌≡◌, Bool, if◌then◌else◌, List, [], Option, Some, None, Result, Ok, Err}
use Rattle.icp.specs.declared.fault.StartFault.{StartFault}
use Rattle.icp.specs.declared.fault.StartFault.TheVariants as fault
use Rattle.icp.specs.declared.outcome.Failure.{Failure}
use Rattle.icp.specs.declared.outcome.Failure.TheVariants as failure
use Rattle.icp.specs.declared.outcome.Outcome.{Outcome}
use Rattle.icp.specs.declared.outcome.Outcome.TheVariants as outcome
use Rattle.sockets.specs.declared.fault.NcpFault.{NcpFault}
use Rattle.sockets.specs.declared.request.Request.{Request}

-- the machine after a notice, what it asks for, in order, and its outcome, if it has ended
abbrev pub IcpTurn : Type 0 → Type 0
IcpTurn S = S × List Request × Option Outcome

-- it ignores the notice
abbrev pub passed : {S : Type 0} → S → IcpTurn S
passed s = (s, [], None)

-- it fails, and asks for nothing
abbrev pub failed : {S : Type 0} → S → Failure → IcpTurn S
failed s f = (s, [], Some (outcome.Failed f))

-- a request was refused: a machine that has no outcome yet fails, and one that has says nothing more
abbrev pub local_outcome : Bool → NcpFault → Option Outcome
local_outcome over fault = if over then None else Some (outcome.Failed (failure.Local fault))

-- a machine that can't begin for `refusal`, and else begins with this property: running out of memory comes last
abbrev pub Decided : {T : Type 0} → Option StartFault → (T → Type 0) → Result T StartFault → Type 0
Decided refusal Gives (Ok x) = (refusal ≡ None) × Gives x
Decided refusal Gives (Err fault.OutOfMemory) = refusal ≡ None
Decided refusal Gives (Err fault.BadSocket) = refusal ≡ Some fault.BadSocket
