-- A property of every frame on lines: what holds of all frames on lines before a call, and of those that the call puts there, holds
-- of all frames on lines after it.
use Rattle.subnet.proofs.Common.{Direction, Frame, Outgoing, Wire, wire_at, followed_by, with_frame, put_on, put_one, put_all, frames_on, without_at, dropping}
use Rattle.std.proofs.Common.{ℕ, zero, suc, ◌+◌, Bool, true, false, List, [], ◌∷◌, ◌++◌, Option, Some, None, cond, All, take, drop}
use Rattle.std.specs.Prelude.{slice_set}
use Rattle.std.proofs.lemmas.List.Elements.{All-nil, All-head, All-tail, All-append, All-push, All-set, All-take, All-drop}
use Rattle.interface.specs.declared.event.Direction.TheVariants as way

pub record WireHolds (F : Frame → Type 0) (w : Wire) : Type 0 where
  pub forward : All F w.forward
  pub back : All F w.back

-- ---- lines by their places

pub wire_holds : (F : Frame → Type 0) (lines : List Wire) (l : ℕ) → All (WireHolds F) lines → WireHolds F (wire_at lines l)
wire_holds F [] l all = record { forward = All-nil F; back = All-nil F }
wire_holds F (w ∷ ws) zero all = All-head (WireHolds F) w ws all
wire_holds F (w ∷ ws) (suc l) all = wire_holds F ws l (All-tail (WireHolds F) w ws all)

pub way_holds : (F : Frame → Type 0) (d : Direction) (w : Wire) → WireHolds F w → All F (frames_on d w)
way_holds F way.Forward w all = all.forward
way_holds F way.Back w all = all.back

-- ---- frames are put on lines

followed_holds : (F : Frame → Type 0) (frames : List Frame) (f : Frame) → All F frames → F f → All F (followed_by frames f)
followed_holds F frames f all here = at _ where
  at : (b : Bool) → All F (cond b (frames ++ f ∷ []) frames)
  at true = All-push F frames f all here
  at false = all

with_frame_holds : (F : Frame → Type 0) (i : ℕ) (f : Frame) (w : Wire) → WireHolds F w → F f → WireHolds F (with_frame i f w)
with_frame_holds F i f w all here = at _ where
  at : (b : Bool) → (let one : Wire = record w { forward = followed_by w.forward f } in let other : Wire = record w { back = followed_by w.back f } in WireHolds F (cond b one other))
  at true = record { forward = followed_holds F _ f all.forward here; back = all.back }
  at false = record { forward = all.forward; back = followed_holds F w.back f all.back here }

put_on_holds : (F : Frame → Type 0) (lines : List Wire) (i : ℕ) (f : Frame) (l : Option ℕ) → All (WireHolds F) lines → F f → All (WireHolds F) (put_on lines i f l)
put_on_holds F lines i f None all here = all
put_on_holds F lines i f (Some l) all here = All-set (WireHolds F) lines l (with_frame i f (wire_at lines l)) (with_frame_holds F i f _ (wire_holds F lines l all) here) all

pub put_all_holds : (F : Frame → Type 0) (lines : List Wire) (i : ℕ) (outs : List Outgoing) → All (WireHolds F) lines → All (λ out. F out.frame) outs → All (WireHolds F) (put_all lines i outs)
put_all_holds F lines i [] all sent = all
put_all_holds F lines i (out ∷ outs) all sent =
    let Sent : Outgoing → Type 0 = λ x. F x.frame in
    put_all_holds F (put_one lines i out) i outs (put_on_holds F lines i _ _ all (All-head Sent out outs sent)) (All-tail Sent out outs sent)

-- ---- frames are dropped

without_holds : (F : Frame → Type 0) (k : ℕ) (frames : List Frame) → All F frames → All F (without_at k frames)
without_holds F k frames all = All-append F (take k frames) (drop (k + 1) frames) (All-take F k frames all) (All-drop F (k + 1) frames all)

dropping_holds : (F : Frame → Type 0) (d : Direction) (k : ℕ) (w : Wire) → WireHolds F w → WireHolds F (dropping d k w)
dropping_holds F way.Forward k w all = record { forward = without_holds F k _ all.forward; back = all.back }
dropping_holds F way.Back k w all = record { forward = all.forward; back = without_holds F k w.back all.back }

-- one frame of a line is dropped
pub dropped_holds : (F : Frame → Type 0) (lines : List Wire) (l : ℕ) (d : Direction) (k : ℕ) → All (WireHolds F) lines → All (WireHolds F) (slice_set lines l (dropping d k (wire_at lines l)))
dropped_holds F lines l d k all = All-set (WireHolds F) lines l (dropping d k (wire_at lines l)) (dropping_holds F d k _ (wire_holds F lines l all)) all
