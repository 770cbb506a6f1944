-- An event as the call of one IMP that it is.
use Rattle.subnet.proofs.Common.{nat_tests, and_from, CarrierFault, Net, imp_at, port_of, State, number, Host, is_host, HostMessage, has_data, is_awaited_at, grows_at}
use Rattle.std.proofs.Common.{◌≡◌, ℕ, ◌==◌, ◌||◌, Bool, true, false, not, Option, Some, None, Result, Err, refl, ap, subst, arith}
use Rattle.interface.specs.declared.carrier.CarrierFault.TheVariants as fault
use Rattle.interface.specs.declared.event.NetEvent.TheVariants as event
use Rattle.imp_node.specs.Stopping.{forget_refusal}
use Rattle.subnet.specs.Events.{first_of, has_end, at_up, at_imp, accepted, is_imp, offer_alive, offer_refusal, offer_out, host_stopped, host_started}
use Rattle.subnet.specs.declared.imp_call.ImpCall.TheVariants as call
use Rattle.subnet.specs.Inside.Calling.{call_turn, call_grows, IsLive, AreLive, Fails, CallEnds, Makes, Steps}

-- a refusal that doesn't apply is skipped
pub passed : {A T : Type 0} (b : Bool) (e : CarrierFault) (refusal : Option CarrierFault) (grows : Bool) (Gives : T → Type 0) (old new : A) (r : Result T CarrierFault) → b ≡ false → CallEnds refusal grows Gives old new r → CallEnds (first_of b e refusal) grows Gives old new r
passed true e refusal grows Gives old new r untrue h = cc
passed false e refusal grows Gives old new r untrue h = h

other_number : (i from k : ℕ) → k ≡ i → (i == from) ≡ false → (from == k) ≡ false
other_number i from k same apart = grind (arith, nat_tests)

pub end_down_step : (n new : Net) (i l k : ℕ) (r : Result (Unit {0}) CarrierFault) → Makes i (call.EndDown k) n new r → k ≡ port_of n.lines i l → has_end n i l ≡ true → Steps (event.EndDown i l) n new r
end_down_step n new i l k r made port there =
    passed _ _ _ _ _ n new r (ap not there) (subst (λ (p : ℕ). Makes i (call.EndDown p) n new r) port made)

pub end_up_step : (n new : Net) (i l k : ℕ) (r : Result (Unit {0}) CarrierFault) → Makes i (call.EndUp k) n new r → k ≡ port_of n.lines i l → has_end n i l ≡ true → Steps (event.EndUp i l) n new r
end_up_step n new i l k r made port there =
    passed _ _ _ _ _ n new r (ap not there) (subst (λ (p : ℕ). Makes i (call.EndUp p) n new r) port made)

-- an IMP that has the number of its place forgets what is from another
forget_accepted : (i from : ℕ) (o : Option State) → IsLive i o → (i == from) ≡ false → at_up o (λ s. forget_refusal s from) ≡ at_up o accepted
forget_accepted i from None live apart = refl
forget_accepted i from (Some s) live apart =
    let other : (from == number s) ≡ false = other_number i from _ live.0 apart in
    rw other refl

pub forget_step : (n new : Net) (at from : ℕ) (r : Result (Unit {0}) CarrierFault) → Makes at (call.Forget from) n new r → AreLive n.imps → is_imp n at ≡ true → is_imp n from ≡ true → (at == from) ≡ false → (has_data n from at || is_awaited_at (imp_at n.imps from) at) ≡ false → Steps (event.Forget at from) n new r
forget_step n new at from r made live here there apart gone =
    passed _ _ _ _ _ n new r (ap not (and_from _ _ here there))
    (passed _ _ _ _ _ n new r apart
    (passed _ _ _ _ _ n new r gone
    (subst (λ (o : Option CarrierFault). CallEnds o (grows_at (imp_at n.imps at) (call_grows (call.Forget from))) (λ (done : Unit {0}). new ≡ at_imp (imp_at n.imps at) at (call_turn (call.Forget from)) n) n new r) (forget_accepted at from _ (live at) apart) made)))

-- ---- an offer

-- a failure of what may grow less often
fails_more : {A : Type 0} (refusal : Option CarrierFault) (grows b : Bool) (e : CarrierFault) (old new : A) → Fails refusal grows b e old new → Fails refusal true b e old new
fails_more refusal grows true e old new h = (h.0, refl)
fails_more refusal grows false e old new h = h

pub offer_failed : (n new : Net) (m : HostMessage) (e : CarrierFault) → is_host n.hosts m.flow.source ≡ true → offer_alive n m.flow (imp_at n.imps m.flow.source.imp) ≡ false → Makes m.flow.source.imp (call.Offer m) n new (Err e) → CallEnds {T = Unit {0}} (offer_refusal n m) true (λ done. new ≡ offer_out n m) n new (Err e)
offer_failed n new m e there gone made =
    passed _ fault.NoSuch _ true (λ (done : Unit {0}). new ≡ offer_out n m) n new (Err e) (ap not there)
    (passed _ fault.StillAlive _ true (λ (done : Unit {0}). new ≡ offer_out n m) n new (Err e) gone
    (fails_more _ _ _ e n new made))

-- ---- hosts

pub host_down_failed : (n new : Net) (h : Host) (e : CarrierFault) → is_host n.hosts h ≡ true → Makes h.imp (call.HostDown h.host) n new (Err e) → Steps (event.HostDown h) n new (Err e)
host_down_failed n new h e there made =
    passed _ fault.NoSuch _ true (λ (done : Unit {0}). new ≡ host_stopped n h) n new (Err e) (ap not there) (fails_more _ _ _ e n new made)

pub host_up_failed : (n new : Net) (h : Host) (e : CarrierFault) → is_host n.hosts h ≡ true → Makes h.imp (call.HostUp h.host) n new (Err e) → Steps (event.HostUp h) n new (Err e)
host_up_failed n new h e there made =
    passed _ fault.NoSuch _ true (λ (done : Unit {0}). new ≡ host_started n h) n new (Err e) (ap not there) (fails_more _ _ _ e n new made)
