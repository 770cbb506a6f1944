-- When a network rests, and when it refuses an offer.
use Rattle.std.specs.Prelude.{◌≡◌, false, List, Option, Some, None, Result, Ok, Err}
use Rattle.interface.specs.Host.{Host, is_host}
use Rattle.interface.specs.Calls.{is_halt, is_memory}
use Rattle.interface.specs.declared.carrier.CarrierFault.{CarrierFault}
use Rattle.interface.specs.declared.crossing.Inbound.{Inbound}
use Rattle.interface.specs.declared.message.HostMessage.{HostMessage}

-- what a taking answers that brings nothing: nothing waits for the host, or the taking is refused, though memory lasts
abbrev pub BringsNothing : Result (Option Inbound) CarrierFault → Type 0
BringsNothing (Ok None) = Unit {0}
BringsNothing (Ok (Some i)) = ⊥
BringsNothing (Err e) = (is_halt e ≡ false) × (is_memory e ≡ false)

-- a taking of this host may bring nothing and leave the carrier as it is
pub record TakesNothing {C : Type 0} (takes : C → Host → Result (Option Inbound) CarrierFault → C → Type 0) (c : C) (h : Host) : Type 0 where
  pub answer : Result (Option Inbound) CarrierFault
  pub nothing : BringsNothing answer
  pub unchanged : takes c h answer c

-- a carrier rests beside these hosts, for which anything may wait: a quiet round leaves it as it is, and so does a taking of any
-- other host, which brings nothing
pub record RestsBeside {C : Type 0} (rounds : C → Result (Unit {0}) CarrierFault → C → Type 0)
    (takes : C → Host → Result (Option Inbound) CarrierFault → C → Type 0) (hosts : List Host) (c : C) : Type 0 where
  pub round : rounds c (Ok tt) c
  pub takings : (h : Host) → is_host hosts h ≡ false → TakesNothing takes c h

-- an offer of this message may be refused, though memory lasts, and leave the carrier as it is
pub record RefusesOffer {C : Type 0} (offers : C → HostMessage → Result (Unit {0}) CarrierFault → C → Type 0) (c : C) (m : HostMessage) : Type 0 where
  pub fault : CarrierFault
  pub lasts : (is_halt fault ≡ false) × (is_memory fault ≡ false)
  pub unchanged : offers c m (Err fault) c
