-- Calls that change nothing: those that a calm makes beside its elementary events.
use Rattle.subnet_trace.proofs.Common.{◌≡◌, ◌<◌, ◌==◌, ◌⊎◌, inl, inr, ℕ, zero, suc, nat_lt, Bool, true, false, List, [], ◌∷◌, ◌++◌, if◌then◌else◌, length, Option, Some, None, slice_get, slice_set, refl, sym, ap, ◌∙◌, subst, arith, Host, Direction, Frame, resend, pump, holds_packet, Outgoing, Message, Told}
use Rattle.std.proofs.lemmas.List.{nil_from_length, set-get_or, length-append}
use Rattle.imp_node.specs.State.{ImpTurn, State, host_at}
use Rattle.imp_node.specs.Taking.{taken_by, to_host, first_of}
use Rattle.subnet.specs.Events.{at_imp, carried, crossings_of, deliver, delivered, drop_frame, take_in, taken_by_host, given_at, logging}
use Rattle.subnet.specs.Net.{Net, Wire, far_end, followed_by, frames_on, imp_at, no_wire, put_all, put_on, put_one, wire_at, with_frame, with_turn, line_places}
use Rattle.subnet_trace.specs.Elements.{live_frames}
use Rattle.interface.specs.declared.event.Direction.TheVariants as way
use Rattle.imp_node.proofs.lemmas.{resending_rests}
use Rattle.subnet.specs.Net as lines
use Rattle.subnet_trace.proofs.Rest.{not_some}
use Rattle.subnet_trace.proofs.Settled.{IsSettled, IsSettledAt, set_at}

-- a call after which the IMP is as before, and no frame is on a line
unmoved : (n : Net) (i : ℕ) (s : State) → imp_at n.imps i ≡ Some s → with_turn i (record { state = s; frames = [] }) n ≡ n
unmoved n i s up = ap (λ (imps : List (Option State)). record n { imps = imps }) (ap (λ (o : Option State). slice_set n.imps i o) (sym up) ∙ set-get_or n.imps i None)

-- ---- sending again

-- an IMP that holds no packet sends nothing again, and changes nothing
pub none_resent : (n : Net) (i : ℕ) (s : State) → imp_at n.imps i ≡ Some s → holds_packet s ≡ false → with_turn i (resend s) n ≡ n
none_resent n i s up none = ap (λ (t : ImpTurn). with_turn i t n) (resending_rests s none) ∙ unmoved n i s up

-- ---- taking

nothing_waits : (s : State) (h : ℕ) (told : List Told) (queue : List Message) → first_of told queue ≡ None → taken_by h told queue s ≡ s
nothing_waits s h [] [] none = refl
nothing_waits s h [] (m ∷ others) none = absurd (not_some (sym none))
nothing_waits s h (t ∷ others) queue none = absurd (not_some (sym none))

-- a host that finds nothing changes nothing, where its IMP has nothing to move
pub none_taken_at : (n : Net) (h : Host) → IsSettledAt n h.imp → taken_by_host n h ≡ None → take_in n h ≡ n
none_taken_at n h settled none = ap (λ o. logging (crossings_of o) (at_imp (imp_at n.imps h.imp) h.imp (λ s. to_host s h.host) n)) none ∙ by (imp_at n.imps h.imp) refl none where
  by : (o : Option State) → imp_at n.imps h.imp ≡ o → given_at o h.host ≡ None → at_imp o h.imp (λ s. to_host s h.host) n ≡ n
  by None down none = refl
  by (Some s) up none =
      let same : taken_by h.host (host_at s h.host).answers (host_at s h.host).queue s ≡ s = nothing_waits s h.host _ _ none in
      ap (λ (t : ImpTurn). with_turn h.imp t n) (ap (λ (t : State). pump [] t) same ∙ settled s up) ∙ unmoved n h.imp s up

pub none_taken : (n : Net) (h : Host) → IsSettled n → taken_by_host n h ≡ None → take_in n h ≡ n
none_taken n h settled none = none_taken_at n h (settled h.imp) none

-- ---- a line without frames

no_frames : (n : Net) (l : ℕ) (d : Direction) → live_frames n l d ≡ 0 → frames_on d (wire_at n.lines l) ≡ []
no_frames n l d none = nil_from_length (frames_on d (wire_at n.lines l)) none

none_delivered : (n : Net) (l : ℕ) (d : Direction) → live_frames n l d ≡ 0 → deliver n l d 0 ≡ n
none_delivered n l d none = ap (λ (fs : List Frame). delivered n l d (slice_get fs 0)) (no_frames n l d none)

dropping_none : (d : Direction) (w : Wire) → frames_on d w ≡ [] → lines.dropping d 0 w ≡ w
dropping_none way.Forward w none =
    ap (λ (fs : List Frame). record w { forward = lines.without_at 0 fs }) none ∙ ap (λ (fs : List Frame). record w { forward = fs }) (sym none)
dropping_none way.Back w none =
    ap (λ (fs : List Frame). record w { back = lines.without_at 0 fs }) none ∙ ap (λ (fs : List Frame). record w { back = fs }) (sym none)

none_dropped : (n : Net) (l : ℕ) (d : Direction) → live_frames n l d ≡ 0 → drop_frame n l d 0 ≡ n
none_dropped n l d none =
    ap (λ (ws : List Wire). record n { lines = ws }) (ap (λ (w : Wire). slice_set n.lines l w) (dropping_none d _ (no_frames n l d none)) ∙ set-get_or n.lines l no_wire)

-- is carried as often as one likes, and nothing changes
pub none_carried : (count : ℕ) (n : Net) (l : ℕ) (d : Direction) → live_frames n l d ≡ 0 → carried count l d n ≡ n
none_carried zero n l d none = refl
none_carried (suc count) n l d none =
    ap (λ (m : Net). carried count l d m) (ap (λ (m : Net). drop_frame m l d 0) (none_delivered n l d none) ∙ none_dropped n l d none) ∙ none_carried count n l d none

-- ---- frames that an IMP puts on lines come after those that are live

followed_live : (fs : List Frame) (f : Frame) → 0 < length fs → 0 < length (followed_by fs f)
followed_live fs f live = by (nat_lt (length fs) line_places) where
  by : (b : Bool) → 0 < length (if b then fs ++ f ∷ [] else fs)
  by true = omega (arith, live, length-append fs (f ∷ []))
  by false = live

framed_live : (d : Direction) (i : ℕ) (f : Frame) (w : Wire) → 0 < length (frames_on d w) → 0 < length (frames_on d (with_frame i f w))
framed_live d i f w live = by d (w.a == i) live where
  by : (d : Direction) (b : Bool) → 0 < length (frames_on d w) → 0 < length (frames_on d (if b then record w { forward = followed_by w.forward f } else record w { back = followed_by w.back f }))
  by way.Forward true live = followed_live w.forward f live
  by way.Forward false live = live
  by way.Back true live = live
  by way.Back false live = followed_live w.back f live

-- frames are live on a line
abbrev IsLive : List Wire → ℕ → Direction → Type 0
IsLive ws l d = 0 < length (frames_on d (wire_at ws l))

put_live : (ws : List Wire) (i : ℕ) (f : Frame) (o : Option ℕ) (l : ℕ) (d : Direction) → IsLive ws l d → IsLive (put_on ws i f o) l d
put_live ws i f None l d live = live
put_live ws i f (Some k) l d live = by (set_at ws k l _ no_wire) where
  new : List Wire
  new = slice_set ws k (with_frame i f (wire_at ws k))

  by : ((l ≡ k) × (wire_at new l ≡ with_frame i f (wire_at ws k))) ⊎ (wire_at new l ≡ wire_at ws l) → IsLive new l d
  by (inl (same, is)) = subst (λ (w : Wire). 0 < length (frames_on d w)) (sym is) (framed_live d i f _ (subst (λ (j : ℕ). IsLive ws j d) same live))
  by (inr is) = subst (λ (w : Wire). 0 < length (frames_on d w)) (sym is) live

all_live : (outs : List Outgoing) (ws : List Wire) (i l : ℕ) (d : Direction) → IsLive ws l d → IsLive (put_all ws i outs) l d
all_live [] ws i l d live = live
all_live (out ∷ outs) ws i l d live = all_live outs (put_one ws i out) i l d (put_live ws i _ _ l d live)

at_live : (n : Net) (i : ℕ) (o : Option State) (call : State → ImpTurn) (l : ℕ) (d : Direction) → IsLive n.lines l d → IsLive (at_imp o i call n).lines l d
at_live n i None call l d live = live
at_live n i (Some s) call l d live = all_live (call s).frames _ i l d live

pub still_live : (n : Net) (l : ℕ) (d : Direction) (o : Option Frame) → 0 < live_frames n l d → 0 < live_frames (delivered n l d o) l d
still_live n l d None live = live
still_live n l d (Some f) live = at_live n (far_end d (wire_at n.lines l)) (imp_at n.imps (far_end d (wire_at n.lines l))) _ l d live
