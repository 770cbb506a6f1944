use Rattle.subnet_trace.proofs.Common.{◌<◌, ◌≤◌, ◌∙◌, ◌++◌, List, ap, arith, length, Net, all_flows, FlowPart}
use Rattle.subnet_trace.proofs.FlowLists.{all_flows_listed, all_left, flows_left, flows_listed}
use Rattle.subnet_trace.proofs.parts.all_flows.Goals as goal

pub loop-number-init : goal.loop-number-init
loop-number-init c = (c.imp_places-number-end.ensures, ap (λ (xs : List (List FlowPart)). xs ++ flows_left c.args.subnet.now.net 0) c.new-lists.ensures ∙ all_left c.args.subnet.now.net)

pub loop-number-preserved : goal.loop-number-preserved
loop-number-preserved c =
    let n : Net = c.args.subnet.now.net in
    let within : c.loop-number.number < length n.imps = omega (arith, c.loop-number-test.true, c.loop-number.invariant.0) in
    (c.loop-number.invariant.0, flows_listed n c.loop-number.number c.loop-number.lists c.push_flows.new.lists (all_flows n) within c.in_ok-push_flows.ensures c.loop-number.invariant.1)

pub returns : goal.returns
returns c =
    let n : Net = c.args.subnet.now.net in
    let past : length n.imps ≤ c.loop-number.number = omega (arith, c.loop-number-test.false, c.loop-number.invariant.0) in
    all_flows_listed n c.loop-number.number c.loop-number.lists (all_flows n) past c.loop-number.invariant.1
