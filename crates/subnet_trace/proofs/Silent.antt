-- Offers and takings that change no part.
use Rattle.subnet_trace.proofs.Common.{◌≡◌, ◌∙◌, Bool, true, false, IfSome, length, Option, None, Ok, Err, ap, sym, subst, is_memory, Host, CarrierFault, HostMessage, State, Fails, Kept, Net, imp_at, subnet_calls, subnet_inside, parts_of_net}
use Rattle.imp_node.proofs.lemmas.{pump_rests}
use Rattle.subnet_trace.proofs.Nothing.{none_taken_at}
use Rattle.subnet_trace.proofs.Settled.{IsSettledAt}

-- ---- one that is refused, though memory lasts

refused_leaves : (refusal : Option CarrierFault) (grows : Bool) (e : CarrierFault) (old new : Kept) → is_memory e ≡ false → Fails refusal grows (is_memory e) e old new → new ≡ old
refused_leaves refusal grows e old new lasts h = (subst (λ (b : Bool). Fails refusal grows b e old new) lasts h).1

pub offer_keeps : (old new : Kept) (m : HostMessage) (e : CarrierFault) → is_memory e ≡ false → subnet_calls.offers old m (Err e) new → subnet_inside.members new ≡ subnet_inside.members old
offer_keeps old new m e lasts h = ap subnet_inside.members (refused_leaves _ true e old new lasts h)

pub take_keeps : (old new : Kept) (h : Host) (e : CarrierFault) → is_memory e ≡ false → subnet_calls.takes old h (Err e) new → subnet_inside.members new ≡ subnet_inside.members old
take_keeps old new h e lasts t = ap subnet_inside.members (refused_leaves _ _ e old new lasts t)

-- ---- a taking by which the host gets nothing

-- at an IMP that is down, or in which no packet waits
pub still_taken : (k new : Kept) (h : Host) → IfSome (imp_at k.net.imps h.imp) (λ s. length s.store ≡ 0) → subnet_calls.takes k h (Ok None) new → subnet_inside.members new ≡ subnet_inside.members k
still_taken k new h empty t = ap (λ (n : Net). parts_of_net n) (ap (λ (j : Kept). j.net) t.1.1 ∙ none_taken_at k.net h settled (sym t.1.0)) where
  settled : IsSettledAt k.net h.imp
  settled = λ s up. pump_rests s (subst (λ (o : Option State). IfSome o (λ s. length s.store ≡ 0)) up empty)
