use Rattle.subnet_trace.proofs.Common.{◌≡◌, ◌<◌, ◌≤◌, ℕ, Some, None, length, arith, sym, ◌∙◌, Net}
use Rattle.subnet_trace.specs.Steps.{turn_begun}
use Rattle.interface.specs.declared.event.Direction.TheVariants as way
use Rattle.subnet_trace.proofs.Stages.{back_first, forward_next, line_passed, lines_over, next_as}
use Rattle.subnet_trace.proofs.calm.from_line.Goals as goal

pub returns-in-Some : goal.returns-in-Some
returns-in-Some c =
    let n : Net = c.args.subnet.now.net in
    let l : ℕ = c.loop-at.at in
    let lt : l < length n.lines = omega (arith, c.loop-at-test.true, c.loop-at.invariant.0) in
    let is : turn_begun n l way.Forward ≡ Some c.in-Some.next = sym c.begin_turn.ensures ∙ c.in-Some.is in
    next_as n _ _ (Some c.in-Some.next) (λ round. sym (c.loop-at.invariant.1 round)) (forward_next n l c.in-Some.next lt is)

pub returns-in-Some-begin_turn : goal.returns-in-Some-begin_turn
returns-in-Some-begin_turn c =
    let n : Net = c.args.subnet.now.net in
    let l : ℕ = c.loop-at.at in
    let lt : l < length n.lines = omega (arith, c.loop-at-test.true, c.loop-at.invariant.0) in
    let none : turn_begun n l way.Forward ≡ None = sym c.begin_turn.ensures ∙ c.in_default.is in
    let is : turn_begun n l way.Back ≡ Some c.in-Some-begin_turn.next = sym c.begin_turn-in-loop-at.ensures ∙ c.in-Some-begin_turn.is in
    next_as n _ _ (Some c.in-Some-begin_turn.next) (λ round. sym (c.loop-at.invariant.1 round)) (back_first n l c.in-Some-begin_turn.next lt none is)

pub loop-at-preserved : goal.loop-at-preserved
loop-at-preserved c =
    let n : Net = c.args.subnet.now.net in
    let l : ℕ = c.loop-at.at in
    let lt : l < length n.lines = omega (arith, c.loop-at-test.true, c.loop-at.invariant.0) in
    let forward : turn_begun n l way.Forward ≡ None = sym c.begin_turn.ensures ∙ c.in_default.is in
    let back : turn_begun n l way.Back ≡ None = sym c.begin_turn-in-loop-at.ensures ∙ c.in_default-begin_turn.is in
    (c.loop-at.invariant.0, λ round. line_passed n l lt forward back round ∙ c.loop-at.invariant.1 round)

pub returns : goal.returns
returns c =
    let n : Net = c.args.subnet.now.net in
    let past : length n.lines ≤ c.loop-at.at = omega (arith, c.loop-at-test.false, c.loop-at.invariant.0) in
    next_as n _ _ c.from_host.result (λ round. sym (c.loop-at.invariant.1 round)) (lines_over n c.loop-at.at c.from_host.result past c.from_host.ensures)
