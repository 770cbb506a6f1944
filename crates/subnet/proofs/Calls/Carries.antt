-- Frames that are delivered and dropped in a quiet round.
use Rattle.subnet.proofs.Common.{range_with_len, nat_tests, Direction, Frame, Net, Wire, wire_at, no_wire, frames_on, dropping, carried_first}
use Rattle.std.proofs.Common.{◌≡◌, ℕ, ◌+◌, ◌-◌, ◌<◌, ◌≤◌, suc, Bool, true, false, ◌&&◌, List, [], ◌∷◌, ◌++◌, length, take, drop, set, nat_lt, slice_get, Some, None, refl, ap, sym, ◌∙◌, arith}
use Rattle.std.specs.Prelude.{if◌then◌else◌}
use Rattle.std.proofs.lemmas.List.{set-get_or, get_or_past}
use Rattle.interface.specs.declared.event.Direction.TheVariants as way
use Rattle.interface.specs.declared.carrier.CarrierFault.TheVariants as fault
use Rattle.subnet.specs.Events.{deliver, delivered, drop_frame, frame_refusal, carried}

-- ---- one more

pub range_more : (i n : ℕ) → i < n → range_with_len i (n - i) ≡ i ∷ range_with_len (i + 1) (n - (i + 1))
range_more i n below =
    let left : n - i ≡ suc (n - (i + 1)) = omega arith in
    ap (range_with_len i) left

pub carried_more : (l : ℕ) (d : Direction) (n : Net) (count k : ℕ) → k < count → carried (count - k) l d n ≡ carried (count - (k + 1)) l d (carried_first l d n)
carried_more l d n count k below =
    let left : count - k ≡ suc (count - (k + 1)) = omega arith in
    ap (λ (c : ℕ). carried c l d n) left

-- ---- where no frame is

none_past : (frames : List Frame) → nat_lt 0 (length frames) ≡ false → frames ≡ []
none_past [] none = refl
none_past (f ∷ frames) none = absurd (grind (arith, nat_tests))

dropped_none : (d : Direction) (w : Wire) → frames_on d w ≡ [] → dropping d 0 w ≡ w
dropped_none way.Forward w none = ap (λ (frames : List Frame). record w { forward = take 0 frames ++ drop 1 frames }) none ∙ ap (λ (frames : List Frame). record w { forward = frames }) (sym none)
dropped_none way.Back w none = ap (λ (frames : List Frame). record w { back = take 0 frames ++ drop 1 frames }) none ∙ ap (λ (frames : List Frame). record w { back = frames }) (sym none)

pub no_frame_in : (d : Direction) → frames_on d no_wire ≡ []
no_frame_in way.Forward = refl
no_frame_in way.Back = refl

no_frame : (n : Net) (l : ℕ) (d : Direction) (a b : Bool) → nat_lt l (length n.lines) ≡ a → nat_lt 0 (length (frames_on d (wire_at n.lines l))) ≡ b → (if a && b then None else Some fault.NoSuch) ≡ Some fault.NoSuch → frames_on d (wire_at n.lines l) ≡ []
no_frame n l d false b past empty refused =
    let beyond : length n.lines ≤ l = grind (arith, nat_tests) in
    ap (frames_on d) (get_or_past n.lines l no_wire beyond) ∙ no_frame_in d
no_frame n l d true false within empty refused = none_past _ empty
no_frame n l d true true within empty refused = cc

pub lost_none : (n : Net) (l : ℕ) (d : Direction) → frame_refusal n l d 0 ≡ Some fault.NoSuch → n ≡ drop_frame n l d 0
lost_none n l d refused =
    let empty : frames_on d (wire_at n.lines l) ≡ [] = no_frame n l d _ _ refl refl refused in
    ap (λ (lines : List Wire). record n { lines = lines }) (sym (ap (set n.lines l) (dropped_none d _ empty) ∙ set-get_or n.lines l no_wire))

pub delivered_none : (n : Net) (l : ℕ) (d : Direction) → frame_refusal n l d 0 ≡ Some fault.NoSuch → n ≡ deliver n l d 0
delivered_none n l d refused =
    let empty : frames_on d (wire_at n.lines l) ≡ [] = no_frame n l d _ _ refl refl refused in
    ap (λ (frames : List Frame). delivered n l d (slice_get frames 0)) (sym empty)

pub none_carried : (n : Net) (l : ℕ) (d : Direction) → frame_refusal n l d 0 ≡ Some fault.NoSuch → n ≡ carried_first l d n
none_carried n l d refused = lost_none n l d refused ∙ ap (λ (m : Net). drop_frame m l d 0) (delivered_none n l d refused)
