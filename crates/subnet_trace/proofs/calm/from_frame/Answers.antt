use Rattle.subnet_trace.proofs.Common.{◌≡◌, ◌<◌, ◌⊎◌, ℕ, RawEvent, Some, Stage, false, inl, inr, arith, sym, subst, Net, IsNext}
use Rattle.subnet_trace.specs.Elements.{live_frames, round_left}
use Rattle.subnet_trace.specs.declared.place.Stage.TheVariants as stage
use Rattle.subnet_trace.proofs.Stages.{frame_next, turn_left_over}
use Rattle.subnet_trace.proofs.calm.from_frame.Goals.{else-frames-gt0-via-then-frames-gt0+else-live-gt0, else-frames-gt0-via-else-frames-gt0}
use Rattle.subnet_trace.proofs.calm.from_frame.Goals as goal

pub returns : goal.returns
returns c =
    let n : Net = c.args.subnet.now.net in
    let none : (c.args.frames ≡ 0) ⊎ (live_frames n c.args.line c.args.direction ≡ 0) = elim c.else-frames-gt0.branch [
      | else-frames-gt0-via-then-frames-gt0+else-live-gt0 w ↦ inr (omega (arith, w.live.ensures.frames, w.if-live-gt0.false))
      | else-frames-gt0-via-else-frames-gt0 w ↦ inl (omega (arith, w.if-frames-gt0.false))
    ] in
    subst (λ b. IsNext n (λ round. round_left round (stage.Carrying c.args.line c.args.direction c.args.frames b) n) c.after_turn.result) (sym c.if-delivered.false)
    (turn_left_over n c.args.line c.args.direction c.args.frames c.after_turn.result none c.after_turn.ensures)

pub returns-then-live-gt0 : goal.returns-then-live-gt0
returns-then-live-gt0 c =
    let n : Net = c.args.subnet.now.net in
    let live : 0 < live_frames n c.args.line c.args.direction = omega (arith, c.live.ensures.frames, c.if-live-gt0.true) in
    subst (λ b. IsNext n (λ round. round_left round (stage.Carrying c.args.line c.args.direction c.args.frames b) n) (Some c.move_frame.result)) (sym c.if-delivered.false)
    (subst (λ (next : RawEvent × Stage). IsNext n (λ round. round_left round (stage.Carrying c.args.line c.args.direction c.args.frames false) n) (Some next)) (sym c.move_frame.ensures)
    (frame_next n c.args.line c.args.direction c.args.frames (omega (arith, c.if-frames-gt0.true)) live))
