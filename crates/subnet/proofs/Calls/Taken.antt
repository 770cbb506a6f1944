-- A frame that is taken off its line before it is delivered: once it is dropped there, nothing shows the difference.
use Rattle.subnet.proofs.Common.{Direction, Frame, Outgoing, State, ImpTurn, Net, Wire, imp_at, wire_at, ends_at, line_from, frames_on, far_end, port_of, followed_by, with_frame, put_on, put_one, put_all, with_turn, without_at, dropping, at_imp, deliver, drop_frame, call_turn, call_grows, carried_first, imps_by, frames_by, AreLive, SameLog}
use Rattle.std.specs.Prelude.{if◌then◌else◌}
use Rattle.std.proofs.Common.{◌≡◌, ℕ, ◌+◌, ◌-◌, ◌<◌, zero, suc, Bool, true, false, List, [], ◌∷◌, ◌++◌, length, nat_lt, set, slice_get, ◌==◌, Option, Some, None, Result, Ok, Err, OnOk, OnErr, refl, ap, sym, subst, ◌∙◌, arith}
use Rattle.interface.specs.declared.event.Direction.TheVariants as way
use Rattle.subnet.specs.Calls.{grows_at, delivered_grows}
use Rattle.subnet.specs.declared.imp_call.ImpCall.TheVariants as call
use Rattle.subnet.specs.Inside.Taking.{hollow, hollowed, frame_taken}
use Rattle.subnet.proofs.Calls.Delivering.{brought, bring_grows_on}

-- ---- one line

abbrev taken : ℕ → Direction → List Wire → List Wire
taken l d lines = set lines l (hollowed d (wire_at lines l))

room : (b : Bool) (x : Frame) (xs : List Frame) (f : Frame) → (if b then hollow ∷ (xs ++ f ∷ []) else hollow ∷ xs) ≡ set (if b then x ∷ (xs ++ f ∷ []) else x ∷ xs) 0 hollow
room true x xs f = refl
room false x xs f = refl

followed_hollow : (frames : List Frame) (f : Frame) → 0 < length frames → followed_by (set frames 0 hollow) f ≡ set (followed_by frames f) 0 hollow
followed_hollow [] f some = absurd (omega (arith, some))
followed_hollow (x ∷ xs) f some = room _ x xs f

forward_hollow : (b : Bool) (w : Wire) (f : Frame) → 0 < length w.forward
    → (if b then record w { forward = followed_by (set w.forward 0 hollow) f } else record w { forward = set w.forward 0 hollow; back = followed_by w.back f }) ≡ hollowed way.Forward (if b then record w { forward = followed_by w.forward f } else record w { back = followed_by w.back f })
forward_hollow true w f some = ap (λ (frames : List Frame). record w { forward = frames }) (followed_hollow _ f some)
forward_hollow false w f some = refl

back_hollow : (b : Bool) (w : Wire) (f : Frame) → 0 < length w.back
    → (if b then record w { forward = followed_by w.forward f; back = set w.back 0 hollow } else record w { back = followed_by (set w.back 0 hollow) f }) ≡ hollowed way.Back (if b then record w { forward = followed_by w.forward f } else record w { back = followed_by w.back f })
back_hollow true w f some = refl
back_hollow false w f some = ap (λ (frames : List Frame). record w { back = frames }) (followed_hollow w.back f some)

with_hollow : (i : ℕ) (f : Frame) (d : Direction) (w : Wire) → 0 < length (frames_on d w) → with_frame i f (hollowed d w) ≡ hollowed d (with_frame i f w)
with_hollow i f way.Forward w some = forward_hollow _ w f some
with_hollow i f way.Back w some = back_hollow _ w f some

-- a frame that is there stays there
room_some : (b : Bool) (x : Frame) (xs : List Frame) (f : Frame) → 0 < length (if b then x ∷ (xs ++ f ∷ []) else x ∷ xs)
room_some true x xs f = omega arith
room_some false x xs f = omega arith

followed_some : (frames : List Frame) (f : Frame) → 0 < length frames → 0 < length (followed_by frames f)
followed_some [] f some = absurd (omega (arith, some))
followed_some (x ∷ xs) f some = room_some _ x xs f

forward_some : (b : Bool) (w : Wire) (f : Frame) → 0 < length w.forward → 0 < length (frames_on way.Forward (if b then record w { forward = followed_by w.forward f } else record w { back = followed_by w.back f }))
forward_some true w f some = followed_some _ f some
forward_some false w f some = some

back_some : (b : Bool) (w : Wire) (f : Frame) → 0 < length w.back → 0 < length (frames_on way.Back (if b then record w { forward = followed_by w.forward f } else record w { back = followed_by w.back f }))
back_some true w f some = some
back_some false w f some = followed_some w.back f some

with_some : (i : ℕ) (f : Frame) (d : Direction) (w : Wire) → 0 < length (frames_on d w) → 0 < length (frames_on d (with_frame i f w))
with_some i f way.Forward w some = forward_some _ w f some
with_some i f way.Back w some = back_some _ w f some

without_first : (frames : List Frame) → without_at 0 (set frames 0 hollow) ≡ without_at 0 frames
without_first [] = refl
without_first (f ∷ frames) = refl

dropped_hollow : (d : Direction) (w : Wire) → dropping d 0 (hollowed d w) ≡ dropping d 0 w
dropped_hollow way.Forward w = ap (λ (frames : List Frame). record w { forward = frames }) (without_first w.forward)
dropped_hollow way.Back w = ap (λ (frames : List Frame). record w { back = frames }) (without_first w.back)

-- ---- all lines

put_hollow : (lines : List Wire) (l m i : ℕ) (f : Frame) (d : Direction) → 0 < length (frames_on d (wire_at lines l))
    → set (taken l d lines) m (with_frame i f (wire_at (taken l d lines) m)) ≡ taken l d (set lines m (with_frame i f (wire_at lines m)))
put_hollow [] l m i f d some = refl
put_hollow (w ∷ ws) zero zero i f d some = ap (λ (v : Wire). v ∷ ws) (with_hollow i f d w some)
put_hollow (w ∷ ws) zero (suc m) i f d some = refl
put_hollow (w ∷ ws) (suc l) zero i f d some = refl
put_hollow (w ∷ ws) (suc l) (suc m) i f d some = ap (λ (vs : List Wire). w ∷ vs) (put_hollow ws l m i f d some)

put_some : (lines : List Wire) (l m i : ℕ) (f : Frame) (d : Direction) → 0 < length (frames_on d (wire_at lines l))
    → 0 < length (frames_on d (wire_at (set lines m (with_frame i f (wire_at lines m))) l))
put_some [] l m i f d some = some
put_some (w ∷ ws) zero zero i f d some = with_some i f d w some
put_some (w ∷ ws) zero (suc m) i f d some = some
put_some (w ∷ ws) (suc l) zero i f d some = some
put_some (w ∷ ws) (suc l) (suc m) i f d some = put_some ws l m i f d some

same_ends : (i : ℕ) (d : Direction) (w : Wire) → ends_at i (hollowed d w) ≡ ends_at i w
same_ends i way.Forward w = refl
same_ends i way.Back w = refl

line_alike : (k : ℕ) (lines : List Wire) (l : ℕ) (d : Direction) (i p : ℕ) → line_from k (taken l d lines) i p ≡ line_from k lines i p
line_alike k [] l d i p = refl
line_alike k (w ∷ ws) zero d i p =
    ap (λ (b : Bool). if b then (if p == 0 then Some k else line_from (k + 1) ws i (p - 1)) else line_from (k + 1) ws i p) (same_ends i d w)
line_alike k (w ∷ ws) (suc l) d i p =
    ap (λ (o : Option ℕ). if ends_at i w then (if p == 0 then Some k else o) else line_from (k + 1) (taken l d ws) i p) (line_alike (k + 1) ws l d i (p - 1))
    ∙ ap (λ (o : Option ℕ). if ends_at i w then (if p == 0 then Some k else line_from (k + 1) ws i (p - 1)) else o) (line_alike (k + 1) ws l d i p)

on_hollow : (o : Option ℕ) (lines : List Wire) (l i : ℕ) (f : Frame) (d : Direction) → 0 < length (frames_on d (wire_at lines l)) → put_on (taken l d lines) i f o ≡ taken l d (put_on lines i f o)
on_hollow None lines l i f d some = refl
on_hollow (Some m) lines l i f d some = put_hollow lines l m i f d some

on_some : (o : Option ℕ) (lines : List Wire) (l i : ℕ) (f : Frame) (d : Direction) → 0 < length (frames_on d (wire_at lines l)) → 0 < length (frames_on d (wire_at (put_on lines i f o) l))
on_some None lines l i f d some = some
on_some (Some m) lines l i f d some = put_some lines l m i f d some

all_hollow : (outs : List Outgoing) (lines : List Wire) (l i : ℕ) (d : Direction) → 0 < length (frames_on d (wire_at lines l)) → put_all (taken l d lines) i outs ≡ taken l d (put_all lines i outs)
all_hollow [] lines l i d some = refl
all_hollow (out ∷ outs) lines l i d some =
    ap (λ (ls : List Wire). put_all ls i outs) (ap (put_on _ i _) (line_alike 0 lines l d i _) ∙ on_hollow _ lines l i _ d some)
    ∙ all_hollow outs (put_one lines i out) l i d (on_some _ lines l i _ d some)

drop_taken : (lines : List Wire) (l : ℕ) (d : Direction) → set (taken l d lines) l (dropping d 0 (wire_at (taken l d lines) l)) ≡ set lines l (dropping d 0 (wire_at lines l))
drop_taken [] l d = refl
drop_taken (w ∷ ws) zero d = ap (λ (v : Wire). v ∷ ws) (dropped_hollow d w)
drop_taken (w ∷ ws) (suc l) d = ap (λ (vs : List Wire). w ∷ vs) (drop_taken ws l d)

-- ---- the subnet

handed_on : (n : Net) (l i : ℕ) (d : Direction) (o : Option State) (turn : State → ImpTurn) → 0 < length (frames_on d (wire_at n.lines l))
    → drop_frame (at_imp o i turn (frame_taken n l d)) l d 0 ≡ drop_frame (at_imp o i turn n) l d 0
handed_on n l i d None turn some = ap (λ (lines : List Wire). record n { lines = lines }) (drop_taken _ l d)
handed_on n l i d (Some s) turn some =
    ap (λ (lines : List Wire). record (with_turn i (turn s) n) { lines = set lines l (dropping d 0 (wire_at lines l)) }) (all_hollow (turn s).frames _ l i d some)
    ∙ ap (λ (lines : List Wire). record (with_turn i (turn s) n) { lines = lines }) (drop_taken _ l d)

handed : (n old new : Net) (l i p : ℕ) (d : Direction) (f : Frame) → old ≡ frame_taken n l d → slice_get (frames_on d (wire_at n.lines l)) 0 ≡ Some f → i ≡ far_end d (wire_at n.lines l) → p ≡ port_of n.lines i l
    → 0 < length (frames_on d (wire_at n.lines l)) → new ≡ at_imp (imp_at old.imps i) i (call_turn (call.Arrive p f)) old → drop_frame new l d 0 ≡ carried_first l d n
handed n old new l i p d f is there far port some made =
    let same : new ≡ at_imp (imp_at n.imps i) i (call_turn (call.Arrive p f)) (frame_taken n l d) =
    subst (λ (m : Net). new ≡ at_imp (imp_at m.imps i) i (call_turn (call.Arrive p f)) m) is made in
    let come : at_imp (imp_at n.imps i) i (call_turn (call.Arrive p f)) n ≡ deliver n l d 0 = brought n _ l d 0 i p f there far port refl in
    ap (λ (m : Net). drop_frame m l d 0) same ∙ (handed_on n l i d _ _ some ∙ ap (λ (m : Net). drop_frame m l d 0) come)

pub handed_ok : {T E : Type 0} (r : Result T E) (n old new : Net) (l i p : ℕ) (d : Direction) (f : Frame) → old ≡ frame_taken n l d → slice_get (frames_on d (wire_at n.lines l)) 0 ≡ Some f → i ≡ far_end d (wire_at n.lines l) → p ≡ port_of n.lines i l
    → 0 < length (frames_on d (wire_at n.lines l)) → OnOk r (new ≡ at_imp (imp_at old.imps i) i (call_turn (call.Arrive p f)) old) → OnOk r (drop_frame new l d 0 ≡ carried_first l d n)
handed_ok (Ok x) n old new l i p d f is there far port some made = handed n old new l i p d f is there far port some made
handed_ok (Err e) n old new l i p d f is there far port some made = tt

pub handed_grows : {T E : Type 0} (r : Result T E) (n old : Net) (l i p : ℕ) (d : Direction) (f : Frame) → old ≡ frame_taken n l d → slice_get (frames_on d (wire_at n.lines l)) 0 ≡ Some f → i ≡ far_end d (wire_at n.lines l) → p ≡ port_of n.lines i l
    → OnErr r (grows_at (imp_at old.imps i) (call_grows (call.Arrive p f)) ≡ true) → OnErr r (delivered_grows n l d (slice_get (frames_on d (wire_at n.lines l)) 0) ≡ true)
handed_grows r n old l i p d f is there far port grows =
    bring_grows_on r n l d 0 i p f there far port (subst (λ (m : Net). OnErr r (grows_at (imp_at m.imps i) (call_grows (call.Arrive p f)) ≡ true)) is grows)

-- ---- a frame for which nothing is sent

quiet_at : (n : Net) (i : ℕ) (o : Option State) (turn : State → ImpTurn) → frames_by o turn ≡ [] → record n { imps = imps_by n.imps i o turn } ≡ at_imp o i turn n
quiet_at n i None turn silent = refl
quiet_at n i (Some s) turn silent = ap (λ (frames : List Outgoing). record n { imps = set n.imps i (Some (turn s).state); lines = put_all n.lines i frames }) (sym silent)

pub taken_quietly : (n new : Net) (l i p : ℕ) (d : Direction) (f : Frame) → slice_get (frames_on d (wire_at n.lines l)) 0 ≡ Some f → i ≡ far_end d (wire_at n.lines l) → p ≡ port_of n.lines (far_end d (wire_at n.lines l)) l
    → new ≡ record n { imps = imps_by n.imps i (imp_at n.imps i) (call_turn (call.Arrive p f)) } → frames_by (imp_at n.imps i) (call_turn (call.Arrive p f)) ≡ [] → new ≡ deliver n l d 0
taken_quietly n new l i p d f there far port is silent =
    brought n new l d 0 i p f there far (port ∙ ap (λ (j : ℕ). port_of n.lines j l) (sym far)) (is ∙ quiet_at n i _ _ silent)

answered_at : (n : Net) (i : ℕ) (o : Option State) (turn : State → ImpTurn) (out : Outgoing) → frames_by o turn ≡ out ∷ [] → record n { imps = imps_by n.imps i o turn; lines = put_one n.lines i out } ≡ at_imp o i turn n
answered_at n i None turn out sent = cc
answered_at n i (Some s) turn out sent = ap (λ (frames : List Outgoing). record n { imps = set n.imps i (Some (turn s).state); lines = put_all n.lines i frames }) (sym sent)

pub taken_again : (n new : Net) (l i p : ℕ) (d : Direction) (f ack : Frame) → slice_get (frames_on d (wire_at n.lines l)) 0 ≡ Some f → i ≡ far_end d (wire_at n.lines l) → p ≡ port_of n.lines (far_end d (wire_at n.lines l)) l
    → new ≡ record n { imps = imps_by n.imps i (imp_at n.imps i) (call_turn (call.Arrive p f)); lines = put_one n.lines i (record { port = p; frame = ack }) }
    → frames_by (imp_at n.imps i) (call_turn (call.Arrive p f)) ≡ record { port = p; frame = ack } ∷ [] → new ≡ deliver n l d 0
taken_again n new l i p d f ack there far port is sent =
    brought n new l d 0 i p f there far (port ∙ ap (λ (j : ℕ). port_of n.lines j l) (sym far)) (is ∙ answered_at n i _ _ _ sent)

again_grows : (o : Option State) (p : ℕ) (f : Frame) (out : Outgoing) → frames_by o (call_turn (call.Arrive p f)) ≡ out ∷ [] → grows_at o (call_grows (call.Arrive p f)) ≡ true
again_grows None p f out sent = cc
again_grows (Some s) p f out sent = ap (λ (frames : List Outgoing). nat_lt 0 (length frames)) sent

pub again_wants : (n : Net) (l i p : ℕ) (d : Direction) (f ack : Frame) → slice_get (frames_on d (wire_at n.lines l)) 0 ≡ Some f → i ≡ far_end d (wire_at n.lines l) → p ≡ port_of n.lines (far_end d (wire_at n.lines l)) l
    → frames_by (imp_at n.imps i) (call_turn (call.Arrive p f)) ≡ record { port = p; frame = ack } ∷ [] → delivered_grows n l d (slice_get (frames_on d (wire_at n.lines l)) 0) ≡ true
again_wants n l i p d f ack there far port sent =
    let r : Result (Unit {0}) (Unit {0}) = Err tt in
    bring_grows_on r n l d 0 i p f there far (port ∙ ap (λ (j : ℕ). port_of n.lines j l) (sym far)) (again_grows _ p f _ sent)

pub handed_quietly : (n new : Net) (l : ℕ) (d : Direction) → new ≡ deliver n l d 0 → drop_frame new l d 0 ≡ carried_first l d n
handed_quietly n new l d is = ap (λ (m : Net). drop_frame m l d 0) is

pub taken_lives : (n m : Net) (l : ℕ) (d : Direction) → m ≡ frame_taken n l d → AreLive n.imps → AreLive m.imps
taken_lives n m l d is live = subst (λ (x : Net). AreLive x.imps) (sym is) live

pub taken_keeps : (n m new : Net) (l : ℕ) (d : Direction) → m ≡ frame_taken n l d → SameLog m new → SameLog n new
taken_keeps n m new l d is same =
    let kept : SameLog (frame_taken n l d) new = subst (λ (x : Net). SameLog x new) is same in
    record { hosts = kept.hosts; log = kept.log }
