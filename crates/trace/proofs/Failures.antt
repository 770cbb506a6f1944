-- What an event did that was processed, whatever was answered.
use Rattle.trace.proofs.Common.{◌≡◌, ℕ, Bool, false, true, List, [], ◌∷◌, None, Result, Ok, Err, ap, refl, subst, sym, ◌==◌, false≢true, Host, EventGives, RawEvent, MayTell}
use Rattle.leader1822.specs.Boxes.{Boxes, BoxesDecided, BoxesStep, host_stopped, opening_boxes, plain_calls}
use Rattle.interface.specs.declared.CarrierFault.{CarrierFault}
use Rattle.interface.specs.declared.CarrierFault.TheVariants as fault
use Rattle.interface.specs.declared.event.NetEvent.TheVariants as net
use Rattle.trace.specs.Worked.{first, hosts, second, stop}

-- what is not refused, and did not run out of memory, was done
done : {T : Type 0} (grows : Bool) (Gives : T → Type 0) (old : Boxes) (r : Result T CarrierFault) (new : Boxes) → new.stopped ≡ false → BoxesDecided None grows Gives old r new → (x : T) × Gives x
done grows Gives old (Ok x) new running h = (x, h.1)
done grows Gives old (Err fault.OutOfMemory) new running h = let stopped : new.stopped ≡ true = h.2.stopped in absurd (cc)
done grows Gives old (Err c) new running h = absurd (cc)

-- the first of some hosts has number 0
abbrev is_first : List Host → Bool
is_first [] = false
is_first (h ∷ others) = h.host == 0

-- so the second host has stopped
has_stopped : (new : Boxes) (lines : List (List ℕ)) → new.stopped ≡ false → MayTell plain_calls (opening_boxes hosts) stop new lines → new ≡ host_stopped (opening_boxes hosts) second
has_stopped new lines running (m, none) =
    let gave : BoxesStep (opening_boxes hosts) (net.HostDown second) m.outcome new = subst (λ (e : RawEvent). EventGives plain_calls (opening_boxes hosts) e m.outcome new) m.begins m.gives in
    (done true _ _ _ new running gave).1

pub row_processed : MayTell plain_calls (opening_boxes hosts) stop (host_stopped (opening_boxes hosts) second) []
row_processed = (record { processed = stop.event; begins = refl; outcome = Ok tt; gives = (refl, refl); unknown = refl }, refl)

pub row_nothing : MayTell plain_calls (opening_boxes hosts) stop (opening_boxes hosts) [] → ⊥
row_nothing h =
    let same : opening_boxes hosts ≡ host_stopped (opening_boxes hosts) second = has_stopped _ [] refl h in
    let none : [] ≡ second ∷ [] = ap (λ (b : Boxes). b.down) same in
    absurd (cc)

pub row_another : MayTell plain_calls (opening_boxes hosts) stop (host_stopped (opening_boxes hosts) first) [] → ⊥
row_another h =
    let same : host_stopped (opening_boxes hosts) first ≡ host_stopped (opening_boxes hosts) second = has_stopped _ [] refl h in
    let other : true ≡ false = ap (λ (b : Boxes). is_first b.down) same in
    false≢true (sym other)

pub row_no_line : (line : List ℕ) → MayTell plain_calls (opening_boxes hosts) stop (host_stopped (opening_boxes hosts) second) (line ∷ []) → ⊥
row_no_line line h = let none : line ∷ [] ≡ [] = h.1 in absurd (cc)
