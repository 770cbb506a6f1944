-- What a call of plain mailboxes did where memory did not run out.
use Rattle.trace.proofs.Common.{◌≡◌, ◌⊎◌, inl, inr, subst, ◌||◌, Bool, true, false, List, Option, Some, None, Result, Ok, Err, ap, ◌∙◌, Host, is_halt, is_memory, NetEvent, Shown, GoesOn, Happens, IsOneCall, outcome_of, RawEvent}
use Rattle.leader1822.specs.Boxes.{Boxes, BoxesDecided, host_refusal, inbound_taken, next_for, offer_refusal, offered, step_refusal, stepped, plain_calls}
use Rattle.interface.specs.declared.CarrierFault.{CarrierFault}
use Rattle.interface.specs.declared.CarrierFault.TheVariants as fault
use Rattle.interface.specs.declared.Inbound.{Inbound}
use Rattle.interface.specs.declared.HostMessage.{HostMessage}
use Rattle.script.specs.declared.event.RawEvent.TheVariants as event

-- it succeeded, or was refused and changed nothing
abbrev pub Went : {T : Type 0} → Option CarrierFault → (T → Type 0) → Boxes → Result T CarrierFault → Boxes → Type 0
Went refusal Gives old (Ok x) new = (refusal ≡ None) × Gives x
Went refusal Gives old (Err f) new = (refusal ≡ Some f) × (new ≡ old)

abbrev pub GoesOnAfter : {T : Type 0} → Result T CarrierFault → Type 0
GoesOnAfter (Ok x) = Unit {0}
GoesOnAfter (Err f) = (is_halt f || is_memory f) ≡ false

pub went : {T : Type 0} (refusal : Option CarrierFault) (grows : Bool) (Gives : T → Type 0) (old : Boxes) (r : Result T CarrierFault) (new : Boxes) → BoxesDecided refusal grows Gives old r new → GoesOnAfter r → Went refusal Gives old r new
went refusal grows Gives old (Ok x) new h goes = h
went refusal grows Gives old (Err fault.OutOfMemory) new h goes = absurd (cc)
went refusal grows Gives old (Err fault.Stopped) new h goes = absurd (cc)
went refusal grows Gives old (Err c) new h goes = h

-- a call that is refused, though memory lasts, leaves the mailboxes as they were
pub refused_leaves : {T : Type 0} (refusal : Option CarrierFault) (grows : Bool) (Gives : T → Type 0) (old : Boxes) (e : CarrierFault) (new : Boxes) → is_memory e ≡ false → BoxesDecided refusal grows Gives old (Err e) new → new ≡ old
refused_leaves refusal grows Gives old fault.OutOfMemory new lasts h = absurd (cc)
refused_leaves refusal grows Gives old e new lasts h = h.1

pub goes_after : (r : Result (Unit {0}) CarrierFault) → GoesOn r → GoesOnAfter r
goes_after (Ok done) goes = tt
goes_after (Err f) goes = goes

pub goes_after_take : (r : Result (Option Inbound) CarrierFault) → GoesOn (outcome_of r) → GoesOnAfter r
goes_after_take (Ok taken) goes = tt
goes_after_take (Err f) goes = goes

-- ---- what an event of one call leaves

-- the mailboxes as they were, or as its definition says
abbrev pub Left : Boxes → Boxes → RawEvent → Type 0
Left old new (event.Out m) = (new ≡ old) ⊎ ((offer_refusal old m.flow ≡ None) × (new ≡ offered old m))
Left old new (event.Take h) = (new ≡ old) ⊎ ((host_refusal old h ≡ None) × (new ≡ inbound_taken old h (next_for old h)))
Left old new (event.Net e) = (new ≡ old) ⊎ ((step_refusal old e ≡ None) × (new ≡ stepped old e))
Left old new (event.Calm rounds) = ⊥

offer_left : (old new : Boxes) (m : HostMessage) (r : Result (Unit {0}) CarrierFault) → Went (offer_refusal old m.flow) (λ done. new ≡ offered old m) old r new → Left old new (event.Out m)
offer_left old new m (Ok done) w = inr w
offer_left old new m (Err f) w = inl w.1

take_left : (old new : Boxes) (h : Host) (r : Result (Option Inbound) CarrierFault) → Went (host_refusal old h) (λ o. (o ≡ next_for old h) × (new ≡ inbound_taken old h o)) old r new → Left old new (event.Take h)
take_left old new h (Ok o) w = inr (w.0, w.1.1 ∙ ap (λ o. inbound_taken old h o) w.1.0)
take_left old new h (Err f) w = inl w.1

step_left : (old new : Boxes) (e : NetEvent) (r : Result (Unit {0}) CarrierFault) → Went (step_refusal old e) (λ done. new ≡ stepped old e) old r new → Left old new (event.Net e)
step_left old new e (Ok done) w = inr w
step_left old new e (Err f) w = inl w.1

pub left_of : (old new : Boxes) (e : RawEvent) (shown : List Shown) → IsOneCall e → Happens plain_calls old e new shown → Left old new e
left_of old new (event.Out m) shown one k = offer_left old new m _ (went _ true _ old _ new k.gives (goes_after _ k.goes_on))
left_of old new (event.Take h) shown one k =
    let r : Result (Option Inbound) CarrierFault = k.gives.0 in
    take_left old new h r (went _ _ _ old r new k.gives.1 (goes_after_take r (subst GoesOn k.gives.2 k.goes_on)))
left_of old new (event.Net e) shown one k = step_left old new e _ (went _ _ _ old _ new k.gives (goes_after _ k.goes_on))
left_of old new (event.Calm rounds) shown one k = absurd one
