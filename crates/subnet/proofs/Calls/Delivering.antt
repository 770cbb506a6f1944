-- Frames that are delivered.
use Rattle.subnet.proofs.Common.{or_right, nat_tests, Direction, State, ImpTurn, Net, imp_at, wire_at, far_end, frames_on, port_of, imp_is_up, at_imp, delivered, deliver, call_turn, call_grows, Frame}
use Rattle.std.proofs.Common.{◌≡◌, ℕ, ◌+◌, Bool, true, false, List, [], ◌∷◌, length, nat_lt, slice_get, Option, Some, None, Result, Ok, Err, OnOk, OnErr, ◌||◌, refl, ap, sym, subst, ◌∙◌, add-one, arith}
use Rattle.imp_node.specs.Turns.{from_line_grows}
use Rattle.subnet.specs.declared.imp_call.ImpCall.TheVariants as call
use Rattle.imp_channel.specs.Holding.{bits_carried}
use Rattle.subnet.specs.Calls.{copy_grows, grows_at, delivered_grows}

above_none : (n : ℕ) → nat_lt 0 (n + 1) ≡ true
above_none n = grind (arith, nat_tests)

some_bits : (bits : List Bool) → (bits ≡ [] → ⊥) → nat_lt 0 (length bits) ≡ true
some_bits [] filled = absurd (filled refl)
some_bits (b ∷ bits) filled = rw (← add-one (length bits)) (above_none _)

-- a copy needs memory only for bits
pub copy_wanted : (f : Frame) → (bits_carried f.content ≡ [] → ⊥) → copy_grows f ≡ true
copy_wanted f filled = some_bits _ filled

-- ---- what a delivery is

-- nothing comes in at an IMP that is down
down_alike : (o : Option State) (n : Net) (i : ℕ) (call : State → ImpTurn) → imp_is_up o ≡ false → at_imp o i call n ≡ n
down_alike None n i call down = refl
down_alike (Some s) n i call down = cc

delivered_down : (n : Net) (l : ℕ) (d : Direction) (f : Option Frame) → imp_is_up (imp_at n.imps (far_end d (wire_at n.lines l))) ≡ false → n ≡ delivered n l d f
delivered_down n l d None down = refl
delivered_down n l d (Some f) down = sym (down_alike _ n _ _ down)

pub not_brought : (n : Net) (l : ℕ) (d : Direction) (k : ℕ) → imp_is_up (imp_at n.imps (far_end d (wire_at n.lines l))) ≡ false → n ≡ deliver n l d k
not_brought n l d k down = delivered_down n l d _ down

-- nothing comes in where no frame is
pub none_brought : (n : Net) (l : ℕ) (d : Direction) (k : ℕ) → slice_get (frames_on d (wire_at n.lines l)) k ≡ None → n ≡ deliver n l d k
none_brought n l d k none = ap (delivered n l d) (sym none)

-- a frame comes in by its call
pub brought : (n new : Net) (l : ℕ) (d : Direction) (k i p : ℕ) (f : Frame) → slice_get (frames_on d (wire_at n.lines l)) k ≡ Some f → i ≡ far_end d (wire_at n.lines l) → p ≡ port_of n.lines i l → new ≡ at_imp (imp_at n.imps i) i (call_turn (call.Arrive p f)) n → new ≡ deliver n l d k
brought n new l d k i p f there far port is =
    let come : at_imp (imp_at n.imps i) i (call_turn (call.Arrive p f)) n ≡ delivered n l d (Some f) =
    subst (λ (q : ℕ). at_imp (imp_at n.imps i) i (call_turn (call.Arrive q f)) n ≡ delivered n l d (Some f)) (sym port)
    (subst (λ (j : ℕ). at_imp (imp_at n.imps j) j (call_turn (call.Arrive (port_of n.lines j l) f)) n ≡ delivered n l d (Some f)) (sym far) refl)
    in
    is ∙ (come ∙ ap (delivered n l d) (sym there))

pub brought_ok : {T E : Type 0} (r : Result T E) (n new : Net) (l : ℕ) (d : Direction) (k i p : ℕ) (f : Frame) → slice_get (frames_on d (wire_at n.lines l)) k ≡ Some f → i ≡ far_end d (wire_at n.lines l) → p ≡ port_of n.lines i l → OnOk r (new ≡ at_imp (imp_at n.imps i) i (call_turn (call.Arrive p f)) n) → OnOk r (new ≡ deliver n l d k)
brought_ok (Ok x) n new l d k i p f there far port is = brought n new l d k i p f there far port is
brought_ok (Err e) n new l d k i p f there far port is = tt

-- ---- memory

either_grows : (o : Option State) (a : Bool) (g : State → Bool) → grows_at o g ≡ true → grows_at o (λ s. a || g s) ≡ true
either_grows None a g h = h
either_grows (Some s) a g h = or_right a (g s) h

bring_grows : (n : Net) (l : ℕ) (d : Direction) (k i p : ℕ) (f : Frame) → slice_get (frames_on d (wire_at n.lines l)) k ≡ Some f → i ≡ far_end d (wire_at n.lines l) → p ≡ port_of n.lines i l → grows_at (imp_at n.imps i) (call_grows (call.Arrive p f)) ≡ true → delivered_grows n l d (slice_get (frames_on d (wire_at n.lines l)) k) ≡ true
bring_grows n l d k i p f there far port grows =
    let far_grows : delivered_grows n l d (Some f) ≡ true =
    either_grows (imp_at n.imps (far_end d _)) (copy_grows f) (λ s. from_line_grows s (port_of n.lines (far_end d _) l) f)
    (subst (λ (j : ℕ). grows_at (imp_at n.imps j) (call_grows (call.Arrive (port_of n.lines j l) f)) ≡ true) far (subst (λ (q : ℕ). grows_at (imp_at n.imps i) (call_grows (call.Arrive q f)) ≡ true) port grows))
    in
    ap (delivered_grows n l d) there ∙ far_grows

pub bring_grows_on : {T E : Type 0} (r : Result T E) (n : Net) (l : ℕ) (d : Direction) (k i p : ℕ) (f : Frame) → slice_get (frames_on d (wire_at n.lines l)) k ≡ Some f → i ≡ far_end d (wire_at n.lines l) → p ≡ port_of n.lines i l → OnErr r (grows_at (imp_at n.imps i) (call_grows (call.Arrive p f)) ≡ true) → OnErr r (delivered_grows n l d (slice_get (frames_on d (wire_at n.lines l)) k) ≡ true)
bring_grows_on (Ok x) n l d k i p f there far port grows = tt
bring_grows_on (Err e) n l d k i p f there far port grows = bring_grows n l d k i p f there far port grows
