-- What becomes of a frame that is delivered.
use Rattle.subnet_trace.proofs.Common.{◌≡◌, ℕ, Option, Some, ap, slice_get, ◌∙◌, Frame, State, Direction, Net, Wire, far_end, frames_on, imp_at, port_of, wire_at}
use Rattle.subnet_trace.specs.Fates.{end_fate, frame_fate, imp_fate}

-- the frame at this place of this line, at this IMP
pub fate_is : (n : Net) (l k : ℕ) (d : Direction) (w : Wire) (f : Frame) (s : State) → wire_at n.lines l ≡ w → slice_get (frames_on d w) k ≡ Some f → imp_at n.imps (far_end d w) ≡ Some s
    → frame_fate n l d (slice_get (frames_on d (wire_at n.lines l)) k) ≡ Some (end_fate s (port_of n.lines (far_end d w) l) f)
fate_is n l k d w f s wire found up =
    ap (λ (o : Option Frame). frame_fate n l d o) (ap (λ (v : Wire). slice_get (frames_on d v) k) wire ∙ found)
    ∙ ap (λ (v : Wire). Some (imp_fate (imp_at n.imps (far_end d v)) (port_of n.lines (far_end d v) l) f)) wire
    ∙ ap (λ (o : Option State). Some (imp_fate o (port_of n.lines (far_end d w) l) f)) up
