-- Calls that would change nothing, and need not be made.
use Rattle.subnet.proofs.Common.{◌≡◌, ℕ, Bool, true, false, ◌&&◌, List, set, Option, Some, None, Result, Ok, Err, refl, ap, sym, ◌∙◌, set-get_or, Host, CarrierFault, Inbound, State, ImpTurn, ignored, route, resend, to_host, Net, imp_at, with_turn, imp_is_up, at_imp, refreshed, logging, crossings_of, taken_by_host, take_in, quiet_round}
use Rattle.std.specs.Prelude.{not}
use Rattle.subnet.specs.Inside.Calling.{CallEnds, Fails}
use Rattle.subnet.specs.Inside.Remembering.{is_refused}

-- ---- a turn that changes nothing

pub rests_at : (n : Net) (i : ℕ) (o : Option State) (s : State) (turn : State → ImpTurn) → imp_at n.imps i ≡ o → o ≡ Some s → turn s ≡ ignored s → at_imp o i turn n ≡ n
rests_at n i None s turn at is rests = cc
rests_at n i (Some t) s turn at is rests =
    let same : t ≡ s = cc in
    let kept : set n.imps i (Some t) ≡ n.imps = ap (set n.imps i) (sym at) ∙ set-get_or n.imps i None in
    ap (λ (x : ImpTurn). with_turn i x n) (ap turn same ∙ rests ∙ ap ignored (sym same)) ∙ ap (λ (imps : List (Option State)). record n { imps = imps }) kept

-- a host that gets nothing
pub nothing_taken : (n : Net) (h : Host) → taken_by_host n h ≡ None → at_imp (imp_at n.imps h.imp) h.imp (λ s. to_host s h.host) n ≡ n → take_in n h ≡ n
nothing_taken n h none same = ap (λ (given : Option Inbound). logging (crossings_of given) (at_imp (imp_at n.imps h.imp) h.imp (λ s. to_host s h.host) n)) none ∙ same

-- ---- a quiet round

down_refreshed : (n : Net) (i : ℕ) (o : Option State) → imp_at n.imps i ≡ o → imp_is_up o ≡ false → refreshed n i ≡ n
down_refreshed n i None at down = ap (λ (o : Option State). (let told : Net = at_imp o i route n in at_imp (imp_at told.imps i) i resend told)) at ∙ ap (λ (o : Option State). at_imp o i resend n) at
down_refreshed n i (Some s) at down = cc

pub not_refreshed : (n : Net) (i : ℕ) → imp_is_up (imp_at n.imps i) ≡ false → n ≡ refreshed n i
not_refreshed n i down = sym (down_refreshed n i _ refl down)

-- a call that is refused changes nothing, and so keeps what rests at rest
refused_fails : (refusal : Option CarrierFault) (grows : Bool) (e : CarrierFault) (old n : Net) (b : Bool) → Fails refusal grows b e old n → not b ≡ true → n ≡ old
refused_fails refusal grows e old n true fails is = absurd (cc)
refused_fails refusal grows e old n false fails is = fails.1

refused_same : {T : Type 0} (refusal : Option CarrierFault) (grows : Bool) (Gives : T → Type 0) (old n : Net) (r : Result T CarrierFault) → CallEnds refusal grows Gives old n r → is_refused r ≡ true → n ≡ old
refused_same refusal grows Gives old n (Ok x) ends is = absurd (cc)
refused_same refusal grows Gives old n (Err e) ends is = refused_fails refusal grows e old n _ ends is

same_rests : (old n : Net) → n ≡ old → quiet_round old ≡ old → quiet_round n ≡ n
same_rests old n same rests = ap quiet_round same ∙ rests ∙ sym same

pub still_rests : {T : Type 0} (refusal : Option CarrierFault) (grows : Bool) (Gives : T → Type 0) (old n : Net) (r : Result T CarrierFault) (rested after : Bool)
    → after ≡ (rested && is_refused r) → CallEnds refusal grows Gives old n r → (rested ≡ true → quiet_round old ≡ old) → after ≡ true → quiet_round n ≡ n
still_rests refusal grows Gives old n r true after is ends rests says = same_rests old n (refused_same refusal grows Gives old n r ends (sym is ∙ says)) (rests refl)
still_rests refusal grows Gives old n r false after is ends rests says = absurd (cc)

pub never_rests : (n : Net) (rests : Bool) → rests ≡ false → rests ≡ true → quiet_round n ≡ n
never_rests n true is says = absurd (cc)
never_rests n false is says = absurd (cc)
