use Rattle.subnet_trace.proofs.Common.{get_or_read, Frame, State, Net, Wire, far_end, frames_on, imp_at, no_wire, port_of, wire_at}
use Rattle.std.proofs.Common.{◌≡◌, ◌<◌, ℕ, List, Some, ap, arith, get_or, length, refl, rules, slice_get, sym, ◌∙◌, deque_len}
use Rattle.subnet_trace.specs.Fates.{end_fate}
use Rattle.std.proofs.lemmas.Option.{slice_get_read}
use Rattle.subnet_trace.proofs.Delivered.{fate_is}
use Rattle.subnet_trace.proofs.fates.frame_fate.Goals as goal

pub returns : goal.returns
returns c =
    let n : Net = c.args.subnet.now.net in
    let l : ℕ = c.args.line in
    let d = c.args.direction in
    let w : Wire = c.index-lines-place.result in
    let f : Frame = c.in_ok-frame.frame.now in
    let s : State = c.in-Some.imp.now in
    let lt : l < length c.lines-lines.result.now = omega (arith, c.if-place-lines.false) in
    let wire : wire_at n.lines l ≡ w = sym (get_or_read c.lines-lines.result.now l w lt c.index-lines-place.is no_wire ∙ ap (λ ws. wire_at ws l) c.lines-lines.ensures) in
    let frames : List Frame = frames_on d w in
    let size : length c.frames.result.now.items ≡ length frames = ap length c.frames.ensures in
    let long : deque_len c.frames.result.now ≡ length c.frames.result.now.items = search rules in
    let there : c.args.frame < deque_len c.frames.result.now = c.in_ok-frame.ensures.variant.0 refl in
    let within : c.args.frame < length frames = omega (arith, there, long, size) in
    let is : f ≡ get_or frames c.args.frame f = c.in_ok-frame.ensures.lookup ∙ ap (λ (fs : List Frame). get_or fs c.args.frame f) c.frames.ensures in
    let found : slice_get frames c.args.frame ≡ Some f = slice_get_read frames (length frames) c.args.frame f refl within is in
    let up : imp_at n.imps (far_end d w) ≡ Some s = search rules in
    let port : c.port_of.result ≡ port_of n.lines (far_end d w) l =
    c.port_of.ensures ∙ ap (λ (ws : List Wire). port_of ws c.far_end-number.result l) c.lines-lines.ensures ∙ ap (λ (i : ℕ). port_of n.lines i l) c.far_end-number.ensures in
    let same : c.end_fate.result ≡ end_fate s (port_of n.lines (far_end d w) l) f = c.end_fate.ensures ∙ ap (λ (k : ℕ). end_fate s k f) port in
    ap (λ x. Some x) same ∙ sym (fate_is n l c.args.frame d w f s wire found up)
