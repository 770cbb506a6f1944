-- The refusals of a request, one after another.
use Rattle.std.proofs.Common.{◌≡◌, Bool, true, false, Option, None, refl}
use Rattle.sockets.specs.Requests.{first_if}
use Rattle.sockets.specs.declared.fault.NcpFault.{NcpFault}

-- where nothing is refused the first test fails, and none of the others refuses
pub not_first : (test : Bool) (f : NcpFault) (others : Option NcpFault) → first_if test f others ≡ None → (test ≡ false) × (others ≡ None)
not_first true f others e = absurd (cc)
not_first false f others e = (refl, e)
