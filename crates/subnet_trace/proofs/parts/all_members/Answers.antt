use Rattle.subnet_trace.proofs.Common.{◌≡◌, ◌<◌, ◌≤◌, ◌∙◌, ◌++◌, [], ◌∷◌, List, ℕ, ap, arith, length, get_or_read, Net, Wire, no_wire, wire_at, Line, all_parts, part_name, parts_members, line_text, member}
use Rattle.subnet_trace.proofs.AllMembers.{all_listed, imp_listed, imps_left, imps_listed, line_listed, none_listed}
use Rattle.subnet_trace.proofs.parts.all_members.Goals as goal

pub loop-imp-init : goal.loop-imp-init
loop-imp-init c = (c.imp_places-imp-end.ensures, ap (λ (xs : List (List ℕ)). xs ++ imps_left c.args.subnet.now.net 0) c.new-members.ensures ∙ none_listed c.args.subnet.now.net)

pub loop-imp-preserved : goal.loop-imp-preserved
loop-imp-preserved c =
    let n : Net = c.args.subnet.now.net in
    let within : c.loop-imp.imp < length n.imps = omega (arith, c.loop-imp-test.true, c.loop-imp.invariant.0) in
    (c.loop-imp.invariant.0, imp_listed n c.loop-imp.imp c.loop-imp.members c.push_imp.new.members (parts_members n (all_parts n)) within c.in_ok-push_imp.ensures c.loop-imp.invariant.1)

pub loop-number-init : goal.loop-number-init
loop-number-init c =
    let n : Net = c.args.subnet.now.net in
    let past : length n.imps ≤ c.loop-imp.imp = omega (arith, c.loop-imp-test.false, c.loop-imp.invariant.0) in
    (ap length c.lines-lines.ensures, imps_listed n c.loop-imp.imp c.loop-imp.members (parts_members n (all_parts n)) past c.loop-imp.invariant.1)

pub loop-number-preserved : goal.loop-number-preserved
loop-number-preserved c =
    let n : Net = c.args.subnet.now.net in
    let l : ℕ = c.loop-number.number in
    let wire : c.index-lines-number.result ≡ wire_at n.lines l = get_or_read c.lines-lines.result.now l c.index-lines-number.result c.loop-number-test.true c.index-lines-number.is no_wire ∙ ap (λ ws. wire_at ws l) c.lines-lines.ensures in
    let within : l < length n.lines = omega (arith, c.loop-number-test.true, c.loop-number.invariant.0) in
    let pushed : c.push.new.self ≡ c.loop-number.members ++ member (part_name (Line l)) (line_text (wire_at n.lines l)) ∷ [] =
    c.in_ok-push.ensures ∙ ap (λ (w : Wire). c.loop-number.members ++ member (part_name (Line l)) (line_text w) ∷ []) wire in
    (c.loop-number.invariant.0, line_listed n l c.loop-number.members c.push.new.self (parts_members n (all_parts n)) within pushed c.loop-number.invariant.1)

pub returns : goal.returns
returns c =
    let n : Net = c.args.subnet.now.net in
    let past : length n.lines ≤ c.loop-number.number = omega (arith, c.loop-number-test.false, c.loop-number.invariant.0) in
    all_listed n c.loop-number.number c.loop-number.members (parts_members n (all_parts n)) past c.loop-number.invariant.1
