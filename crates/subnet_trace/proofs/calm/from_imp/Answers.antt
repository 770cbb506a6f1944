use Rattle.subnet_trace.proofs.Common.{◌≡◌, ◌<◌, ℕ, Some, None, length, arith, sym, ◌∙◌, Net}
use Rattle.subnet_trace.specs.Steps.{call_of}
use Rattle.subnet_trace.proofs.Stages.{imp_next, imp_passed, next_as}
use Rattle.subnet_trace.proofs.calm.from_imp.Goals as goal

pub returns-in-Some : goal.returns-in-Some
returns-in-Some c =
    let n : Net = c.args.subnet.now.net in
    let i : ℕ = c.loop-number.number in
    let lt : i < length n.imps = omega (arith, c.loop-number-test.true, c.loop-number.invariant.0) in
    let is : call_of n i c.loop-number.told ≡ Some c.in-Some.next = sym c.call_of.ensures ∙ c.in-Some.is in
    next_as n _ _ (Some c.in-Some.next) (λ round. sym (c.loop-number.invariant.1 round)) (imp_next n i c.loop-number.told c.in-Some.next lt is)

pub loop-number-preserved : goal.loop-number-preserved
loop-number-preserved c =
    let n : Net = c.args.subnet.now.net in
    let i : ℕ = c.loop-number.number in
    let lt : i < length n.imps = omega (arith, c.loop-number-test.true, c.loop-number.invariant.0) in
    let is : call_of n i c.loop-number.told ≡ None = sym c.call_of.ensures ∙ c.in_default.is in
    (c.loop-number.invariant.0, λ round. imp_passed n i c.loop-number.told lt is round ∙ c.loop-number.invariant.1 round)
