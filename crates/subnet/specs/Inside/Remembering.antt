-- What a subnet remembers beside its parts: whether it rests, and the highest number that a message was begun with.
use Rattle.std.specs.Prelude.{◌≡◌, ℕ, Bool, true, false, not, Result, Ok, Err}
use Rattle.interface.specs.Calls.{is_memory}
use Rattle.interface.specs.declared.carrier.CarrierFault.{CarrierFault}
use Rattle.subnet.specs.Calls.{Kept}
use Rattle.subnet.specs.Events.{quiet_round}
use Rattle.subnet.specs.Working.{IsWorking}
use Rattle.subnet.specs.Inside.Highest.{NumbersUpTo}

-- a subnet that is said to rest does so: a quiet round changes nothing in it. Until it stops, no higher number is alive of a flow
-- whose source's IMP is up
pub record IsRemembered (k : Kept) (rests : Bool) (highest : ℕ) : Type 0 where
  pub working : IsWorking k
  pub resting : rests ≡ true → quiet_round k.net ≡ k.net
  pub numbers : k.stopped ≡ false → NumbersUpTo highest k.net

-- a call is refused, for another reason than that memory ran out: it changes nothing
abbrev pub is_refused : {T : Type 0} → Result T CarrierFault → Bool
is_refused (Ok x) = false
is_refused (Err e) = not (is_memory e)
