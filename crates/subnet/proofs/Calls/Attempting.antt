-- A call that is refused changes nothing, where the IMP's turn would change nothing.
use Rattle.subnet.proofs.Common.{set-get_or, nat_tests, CarrierFault, answer_to, Frame, State, ImpTurn, port_at, down_port, Port, Net, imp_at, with_turn, at_up, at_imp, grows_at, ImpCall}
use Rattle.std.specs.Prelude.{if◌then◌else◌}
use Rattle.std.proofs.Common.{◌≡◌, ℕ, ◌≤◌, zero, suc, Bool, true, false, List, [], ◌∷◌, set, length, nat_lt, Option, Some, None, Result, Ok, Err, OnOk, refl, ap, sym, subst, ◌∙◌, arith}
use Rattle.interface.specs.declared.carrier.CarrierFault.TheVariants as fault
use Rattle.imp_node.specs.Arrival.{taken_frame, ignored}
use Rattle.subnet.specs.declared.imp_call.ImpCall.TheVariants as call
use Rattle.subnet.specs.Inside.Calling.{call_refusal, call_turn, call_grows, AreLive, Fails, Makes, Ignores, runs_out}

ignored_at : (n : Net) (i : ℕ) (o : Option State) (c : ImpCall) (e : CarrierFault) → imp_at n.imps i ≡ o → Ignores c → at_up o (call_refusal c) ≡ Some e → n ≡ at_imp o i (call_turn c) n
ignored_at n i None c e at quiet refused = refl
ignored_at n i (Some s) c e at quiet refused =
    let same : set n.imps i (Some s) ≡ n.imps = ap (set n.imps i) (sym at) ∙ set-get_or n.imps i None in
    ap (λ (imps : List (Option State)). record n { imps = imps }) (sym same) ∙ ap (λ (t : ImpTurn). with_turn i t n) (sym (quiet s e refused))

failed_alike : (n new : Net) (i : ℕ) (c : ImpCall) (e : CarrierFault) (b : Bool) (grows : Bool) → b ≡ false → Ignores c → Fails (at_up (imp_at n.imps i) (call_refusal c)) grows b e n new → new ≡ at_imp (imp_at n.imps i) i (call_turn c) n
failed_alike n new i c e true grows untrue quiet h = cc
failed_alike n new i c e false grows untrue quiet h = h.1 ∙ ignored_at n i _ c e refl quiet h.0

pub attempted : (n new : Net) (i : ℕ) (c : ImpCall) (r : Result (Unit {0}) CarrierFault) → Makes i c n new r → Ignores c → runs_out r ≡ false → new ≡ at_imp (imp_at n.imps i) i (call_turn c) n
attempted n new i c (Ok done) made quiet some = made.1
attempted n new i c (Err e) made quiet some = failed_alike n new i c e _ _ some quiet made

lives_alike : (n new : Net) (e : CarrierFault) (b : Bool) (refusal : Option CarrierFault) (grows : Bool) → b ≡ false → AreLive n.imps → Fails refusal grows b e n new → AreLive new.imps
lives_alike n new e true refusal grows untrue live h = cc
lives_alike n new e false refusal grows untrue live h = subst (λ (m : Net). AreLive m.imps) (sym h.1) live

pub attempt_lives : (n new : Net) (i : ℕ) (c : ImpCall) (r : Result (Unit {0}) CarrierFault) → Makes i c n new r → AreLive n.imps → OnOk r (AreLive new.imps) → runs_out r ≡ false → AreLive new.imps
attempt_lives n new i c (Ok done) made live after some = after
attempt_lives n new i c (Err e) made live after some = lives_alike n new e _ _ _ some live made

grows_alike : (n new : Net) (e : CarrierFault) (b : Bool) (refusal : Option CarrierFault) (grows : Bool) → b ≡ true → Fails refusal grows b e n new → grows ≡ true
grows_alike n new e true refusal grows wanted h = h.1
grows_alike n new e false refusal grows wanted h = cc

pub attempt_grows : (n new : Net) (i : ℕ) (c : ImpCall) (r : Result (Unit {0}) CarrierFault) → Makes i c n new r → runs_out r ≡ true → grows_at (imp_at n.imps i) (call_grows c) ≡ true
attempt_grows n new i c (Ok done) made none = cc
attempt_grows n new i c (Err e) made none = grows_alike n new e _ _ _ none made

-- ---- the calls that need not be asked for

pub resend_ignores : Ignores call.Resend
resend_ignores s e refused = cc

pub route_ignores : Ignores call.Route
route_ignores s e refused = cc

past_end : (b : Bool) (s : State) (k : ℕ) (e : CarrierFault) → nat_lt k (length s.ports) ≡ b → (if b then None else Some fault.NoSuch) ≡ Some e → length s.ports ≤ k
past_end true s k e test refused = cc
past_end false s k e test refused = grind (arith, nat_tests)

ended : (ports : List Port) (k : ℕ) → length ports ≤ k → port_at ports k ≡ down_port
ended [] k far = refl
ended (port ∷ ports) zero far = absurd (omega (arith, far))
ended (port ∷ ports) (suc k) far = ended ports k (omega (arith, far))

pub arrive_ignores : (k : ℕ) (f : Frame) → Ignores (call.Arrive k f)
arrive_ignores k f s e refused =
    ap (λ (port : Port). if port.up then taken_frame (answer_to port.line f) k f s else ignored s) (ended _ k (past_end _ s k e refl refused))
