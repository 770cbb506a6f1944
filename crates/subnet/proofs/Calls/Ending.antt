-- How the call of an IMP ends, and what it leaves in the subnet.
use Rattle.subnet.proofs.Common.{Bool, Option, Some, Result, Ok, Err, ap, CarrierFault, State, CallEnds}
use Rattle.interface.specs.declared.carrier.CarrierFault.TheVariants as fault
use Rattle.imp_node.specs.Turns.{Turned}

-- an IMP's answer as that of what is at its place
pub ends_of_turned : {T : Type 0} (refusal : Option CarrierFault) (grows : Bool) (Gives : T → Type 0) (s t : State) (r : Result T CarrierFault) → Turned refusal grows Gives s t r → CallEnds refusal grows Gives (Some s) (Some t) r
ends_of_turned refusal grows Gives s t (Ok x) h = h
ends_of_turned refusal grows Gives s t (Err fault.OutOfMemory) h = (h.0, h.1)
ends_of_turned refusal grows Gives s t (Err fault.NoSuch) h = (h.0, ap Some h.1)
ends_of_turned refusal grows Gives s t (Err fault.StillAlive) h = (h.0, ap Some h.1)
ends_of_turned refusal grows Gives s t (Err fault.IsDown) h = (h.0, ap Some h.1)
ends_of_turned refusal grows Gives s t (Err fault.IsUp) h = (h.0, ap Some h.1)
ends_of_turned refusal grows Gives s t (Err fault.Unsettled) h = (h.0, ap Some h.1)
ends_of_turned refusal grows Gives s t (Err fault.NotOutstanding) h = (h.0, ap Some h.1)
ends_of_turned refusal grows Gives s t (Err fault.Blocked) h = (h.0, ap Some h.1)
ends_of_turned refusal grows Gives s t (Err fault.NoRoom) h = (h.0, ap Some h.1)
ends_of_turned refusal grows Gives s t (Err fault.Stopped) h = (h.0, ap Some h.1)
