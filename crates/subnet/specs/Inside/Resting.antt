-- Hosts whose takings give nothing and change nothing.
use Rattle.std.specs.Prelude.{◌≡◌, ◌⊎◌, ℕ, Bool, true, false, not, List, Option, Some, None, slice_get}
use Rattle.interface.specs.Calls.{is_halt, is_memory}
use Rattle.interface.specs.Host.{Host, is_host}
use Rattle.interface.specs.declared.carrier.CarrierFault.{CarrierFault}
use Rattle.imp_node.specs.State.{State, is_up}
use Rattle.subnet.specs.Net.{Net}
use Rattle.subnet.specs.Events.{take_refusal, taken_by_host, take_in}

-- an IMP is down, or its host of this number is
abbrev pub is_away : Option State → ℕ → Bool
is_away None h = true
is_away (Some s) h = not (is_up s h)

-- something is refused, for another reason than want of memory, now or earlier
pub record IsRefused (refusal : Option CarrierFault) : Type 0 where
  pub fault : CarrierFault
  pub is : refusal ≡ Some fault
  pub no_halt : is_halt fault ≡ false
  pub no_memory : is_memory fault ≡ false

-- a taking of this host is not refused, gives nothing and changes nothing
pub record HasNothing (n : Net) (h : Host) : Type 0 where
  pub accepted : take_refusal n h ≡ None
  pub nothing : taken_by_host n h ≡ None
  pub unchanged : take_in n h ≡ n

abbrev pub TakesNone : Net → Host → Type 0
TakesNone n h = IsRefused (take_refusal n h) ⊎ HasNothing n h

-- the same of the host at this place, unless it is one of these
abbrev pub TakesNoneAt : Net → List Host → ℕ → Type 0
TakesNoneAt n hosts i = (h : Host) → slice_get n.hosts i ≡ Some h → is_host hosts h ≡ false → TakesNone n h
