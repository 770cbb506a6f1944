-- A call leaves each IMP that is up with its number, and with memory where it succeeds.
use Rattle.subnet.proofs.Common.{set-get_or, get_or_default, IfSome, CarrierFault, Frame, State, ImpTurn, number, to_host, to_host_refusal, at_set, at_up, grows_at, imp_at, ImpCall, call_turn, IsLive, AreLive, CallEnds, imp_by}
use Rattle.std.proofs.Common.{◌≡◌, ℕ, ◌<◌, zero, suc, Bool, false, List, [], ◌∷◌, get_or, set, length, Option, Some, None, Result, Ok, Err, OnOk, refl, ap, sym, subst, ◌∙◌, arith}
use Rattle.imp_node.specs.Turns.{to_host_grows}
use Rattle.subnet.proofs.Calls.Owning.{call_own, to_host_own}

live_by : (i : ℕ) (o : Option State) (call : State → ImpTurn) → ((s : State) → number (call s).state ≡ number s) → IsLive i o → IfSome (imp_by o call) (λ s. s.spent ≡ false) → IsLive i (imp_by o call)
live_by i None call own live unspent = tt
live_by i (Some s) call own live unspent = (own s ∙ live.0, unspent)

live_new : (i : ℕ) (o x : Option State) (call : State → ImpTurn) → ((s : State) → number (call s).state ≡ number s) → IsLive i o → x ≡ imp_by o call → IfSome x (λ s. s.spent ≡ false) → IsLive i x
live_new i o x call own live is unspent =
    subst (λ (y : Option State). IsLive i y) (sym is) (live_by i o call own live (subst (λ (y : Option State). IfSome y (λ s. s.spent ≡ false)) is unspent))

live_set : (imps : List (Option State)) (i : ℕ) (x : Option State) (call : State → ImpTurn) → ((s : State) → number (call s).state ≡ number s) → AreLive imps → x ≡ imp_by (imp_at imps i) call → IfSome x (λ s. s.spent ≡ false) → AreLive (set imps i x)
live_set imps i x call own live is unspent = λ h. at_set IsLive imps i h x None (live h) (live_new i _ x call own (live i) is unspent)

pub live_call : {T : Type 0} (r : Result T CarrierFault) (imps : List (Option State)) (i : ℕ) (x : Option State) (c : ImpCall) (refusal : Option CarrierFault) (grows : Bool) (Q : T → Type 0) → AreLive imps → CallEnds refusal grows (λ (y : T). (x ≡ imp_by (imp_at imps i) (call_turn c)) × Q y) (imp_at imps i) x r → OnOk r (IfSome x (λ s. s.spent ≡ false)) → OnOk r (AreLive (set imps i x))
live_call (Ok y) imps i x c refusal grows Q live is unspent = live_set imps i x _ (call_own c) live is.1.0 unspent
live_call (Err e) imps i x c refusal grows Q live is unspent = tt

-- a call that may be left
pub live_again_read : (r : Option Frame) (imps : List (Option State)) (i : ℕ) (x d : Option State) (c : ImpCall) → i < length imps → AreLive imps → IfSome r (λ ack. x ≡ imp_by (get_or imps i d) (call_turn c)) → (r ≡ None → x ≡ get_or imps i d) → IfSome x (λ s. s.spent ≡ false) → AreLive (set imps i x)
live_again_read (Some ack) imps i x d c within live taken left unspent =
    live_set imps i x _ (call_own c) live (taken ∙ ap (λ (o : Option State). imp_by o (call_turn c)) (get_or_default imps i d None within)) unspent
live_again_read None imps i x d c within live taken left unspent =
    subst AreLive (sym (ap (set imps i) (left refl ∙ get_or_default imps i d None within) ∙ set-get_or imps i None)) live

-- a call that runs out of memory, and does nothing else but succeed
pub live_passed : {T E : Type 0} (r : Result T E) (imps : List (Option State)) (i : ℕ) (x d : Option State) (c : ImpCall) → i < length imps → AreLive imps → OnOk r (x ≡ imp_by (get_or imps i d) (call_turn c)) → OnOk r (IfSome x (λ s. s.spent ≡ false)) → OnOk r (AreLive (set imps i x))
live_passed (Ok y) imps i x d c within live taken unspent =
    live_set imps i x _ (call_own c) live (taken ∙ ap (λ (o : Option State). imp_by o (call_turn c)) (get_or_default imps i d None within)) unspent
live_passed (Err e) imps i x d c within live taken unspent = tt

-- a taking
live_taking : {T : Type 0} (r : Result T CarrierFault) (imps : List (Option State)) (i h : ℕ) (x : Option State) (refusal : Option CarrierFault) (grows : Bool) (P Q : T → Type 0) → AreLive imps → CallEnds refusal grows (λ (y : T). P y × (x ≡ imp_by (imp_at imps i) (λ s. to_host s h)) × Q y) (imp_at imps i) x r → OnOk r (IfSome x (λ s. s.spent ≡ false)) → OnOk r (AreLive (set imps i x))
live_taking (Ok y) imps i h x refusal grows P Q live is unspent = live_set imps i x _ (λ s. to_host_own s h) live is.1.1 unspent
live_taking (Err e) imps i h x refusal grows P Q live is unspent = tt

pub live_taking_read : {T : Type 0} (r : Result T CarrierFault) (imps : List (Option State)) (i h : ℕ) (x d : Option State) (P Q : Option State → T → Type 0) → i < length imps → AreLive imps → CallEnds (at_up (get_or imps i d) (λ s. to_host_refusal s h)) (grows_at (get_or imps i d) (λ s. to_host_grows s h)) (λ (y : T). P (get_or imps i d) y × (x ≡ imp_by (get_or imps i d) (λ s. to_host s h)) × Q (get_or imps i d) y) (get_or imps i d) x r → OnOk r (IfSome x (λ s. s.spent ≡ false)) → OnOk r (AreLive (set imps i x))
live_taking_read {T} r imps i h x d P Q within live is unspent =
    live_taking r imps i h x _ _ _ _ live
    (subst (λ (o : Option State). CallEnds (at_up o (λ s. to_host_refusal s h)) (grows_at o (λ s. to_host_grows s h)) (λ (y : T). P o y × (x ≡ imp_by o (λ s. to_host s h)) × Q o y) o x r) (get_or_default imps i d None within) is)
    unspent
