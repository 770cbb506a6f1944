use Rattle.trace.proofs.Common.{◌<◌, arith, length, List, ℕ, changed_lists, extended, FlowPart}
use Rattle.trace.proofs.Changes.Flowing.{list_added}
use Rattle.trace.proofs.flow_lists.FlowLists.add_changed.Goals as goal

pub loop-place-preserved : goal.loop-place-preserved
loop-place-preserved c =
    let before : List (List FlowPart) = c.args.before.now in
    let now : List (List FlowPart) = c.args.self.now in
    let i : ℕ = c.loop-place.place in
    let whole : List ℕ = extended c.args.object.items (changed_lists before now) in
    let within : i < length now = omega (arith, c.loop-place-test.true, c.loop-place.invariant.0) in
    (c.loop-place.invariant.0, list_added before now i c.at.result.now c.at-in-loop-place.result.now c.loop-place.text.items c.in_ok-text.text.items whole within c.at.ensures c.at-in-loop-place.ensures c.in_ok-text.ensures c.loop-place.invariant.1)
