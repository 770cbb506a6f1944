-- Carriers that leave a replay no choice.
use Rattle.std.specs.Prelude.{◌≡◌, List, ◌++◌, Option, Result, Err}
use Rattle.interface.specs.Host.{Host}
use Rattle.interface.specs.declared.CarrierFault.{CarrierFault}
use Rattle.interface.specs.declared.Inbound.{Inbound}
use Rattle.interface.specs.declared.NetEvent.{NetEvent}
use Rattle.interface.specs.declared.HostMessage.{HostMessage}
use Rattle.interface.specs.declared.crossing.Crossing.{Crossing}
use Rattle.replay.specs.Replay.{GoesOn, outcome_of}
use Rattle.interface.specs.Calls.{Calls}

-- two answers are one, and so are the carriers that they leave
pub record SameEnd {T C : Type 0} (r q : Result T CarrierFault) (new other : C) : Type 0 where
  pub answers : r ≡ q
  pub carriers : new ≡ other

-- the carrier's log grew by some crossings, or by none
pub record Grows {C : Type 0} (calls : Calls C) (old new : C) : Type 0 where
  pub crossings : List Crossing
  pub grown : (calls.seen new).log ≡ crossings ++ (calls.seen old).log

-- each call has one answer and leaves one carrier, unless memory runs out; a taking only adds crossings, and none where it is
-- refused; a quiet round adds none
pub record AreSettled {C : Type 0} (calls : Calls C) : Type 0 where
  pub offers_once : (old : C) (m : HostMessage) (r q : Result (Unit {0}) CarrierFault) (new other : C)
      → calls.offers old m r new → GoesOn r → calls.offers old m q other → GoesOn q → SameEnd r q new other
  pub takes_once : (old : C) (h : Host) (r q : Result (Option Inbound) CarrierFault) (new other : C)
      → calls.takes old h r new → GoesOn (outcome_of r) → calls.takes old h q other → GoesOn (outcome_of q) → SameEnd r q new other
  pub steps_once : (old : C) (e : NetEvent) (r q : Result (Unit {0}) CarrierFault) (new other : C)
      → calls.steps old e r new → GoesOn r → calls.steps old e q other → GoesOn q → SameEnd r q new other
  pub rounds_once : (old : C) (r q : Result (Unit {0}) CarrierFault) (new other : C)
      → calls.rounds old r new → GoesOn r → calls.rounds old q other → GoesOn q → SameEnd r q new other
  pub taking_grows : (old : C) (h : Host) (r : Result (Option Inbound) CarrierFault) (new : C) → calls.takes old h r new → Grows calls old new
  pub refused_taking : (old : C) (h : Host) (f : CarrierFault) (new : C) → calls.takes old h (Err f) new → (calls.seen new).log ≡ (calls.seen old).log
  pub quiet_round : (old : C) (r : Result (Unit {0}) CarrierFault) (new : C) → calls.rounds old r new → (calls.seen new).log ≡ (calls.seen old).log
