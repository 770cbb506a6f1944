use Rattle.subnet_trace.proofs.Common.{◌≡◌, ◌∙◌, ◌+◌, ◌<◌, ◌≤◌, ℕ, List, ap, arith, length, rules, subst, sym, Net, Scope, all_flows, HasFlowsIn, changed_lists, extended}
use Rattle.subnet_trace.proofs.FlowLists.{AllFlowsPut, FlowsAt, flows_done, flows_start, none_at, put_at_imp, within_at}
use Rattle.subnet_trace.proofs.parts.change_flows.Goals.{then-is_imp+in_ok-text, else-is_imp}
use Rattle.subnet_trace.proofs.parts.change_flows.Goals as goal

pub loop-number-init : goal.loop-number-init
loop-number-init c = (c.requires, c.imp_places-number-end.ensures, omega arith, flows_start c.args.scope c.args.known.now c.args.subnet.now.net c.requires c.args.object.items)

pub put_flows-requires-clause-within : goal.put_flows-requires-clause-within
put_flows-requires-clause-within c =
    let n : Net = c.args.subnet.now.net in
    let r : HasFlowsIn c.args.scope c.args.known.now n = c.loop-number.invariant.0 in
    within_at c.args.scope c.args.known.now n r (extended c.args.object.items (changed_lists c.args.known.now (all_flows n))) c.loop-number.number c.loop-number.place c.loop-number.known c.loop-number.text.items
    (omega (arith, c.loop-number-test.true, c.loop-number.invariant.1)) (sym c.is_imp.ensures ∙ c.if-is_imp.true) c.loop-number.invariant.3

pub put_flows-requires-clause-small : goal.put_flows-requires-clause-small
put_flows-requires-clause-small c =
    let few : c.imp_places-number-end.result ≤ 255 = search rules in
    omega (arith, few, c.loop-number-test.true, c.loop-number.invariant.1, c.loop-number.invariant.2, c.imp_places-number-end.ensures)

pub loop-number-preserved : goal.loop-number-preserved
loop-number-preserved c =
    let n : Net = c.args.subnet.now.net in
    let s : Scope = c.args.scope in
    let i : ℕ = c.loop-number.number in
    let r : HasFlowsIn s c.args.known.now n = c.loop-number.invariant.0 in
    let lt : i < length n.imps = omega (arith, c.loop-number-test.true, c.loop-number.invariant.1) in
    let whole : List ℕ = extended c.args.object.items (changed_lists c.args.known.now (all_flows n)) in
    let place : ℕ = c.loop-number.place in
    elim c.if-is_imp.branch [
      | then-is_imp+in_ok-text w ↦ (
        r,
        c.loop-number.invariant.1,
        omega (arith, c.loop-number.invariant.2, w.place-is),
        subst (λ (k : ℕ). FlowsAt s c.args.known.now n r whole (i + 1) k c.if-is_imp.known c.if-is_imp.text.items) (sym w.place-is)
            (put_at_imp s c.args.known.now n r whole i place w.has_imp-may.result c.loop-number.known c.if-is_imp.known c.loop-number.text.items c.if-is_imp.text.items lt (sym c.is_imp.ensures ∙ w.if-is_imp.true) w.has_imp-may.ensures
            (w.known-is ∙ w.in_ok-text.ensures.known)
            (ap (λ t. t.items) w.text-is ∙ w.in_ok-text.ensures.changed)
            c.loop-number.invariant.3),
      )
      | else-is_imp w ↦ (
        r,
        c.loop-number.invariant.1,
        omega (arith, c.loop-number.invariant.2, w.place-is),
        subst (λ (k : ℕ). FlowsAt s c.args.known.now n r whole (i + 1) k c.if-is_imp.known c.if-is_imp.text.items) (sym w.place-is)
            (subst (λ ks. FlowsAt s c.args.known.now n r whole (i + 1) place ks c.if-is_imp.text.items) (sym w.known-is)
            (subst (λ (t : List ℕ). FlowsAt s c.args.known.now n r whole (i + 1) place c.loop-number.known t) (sym (ap (λ t. t.items) w.text-is))
            (none_at s c.args.known.now n r whole i place c.loop-number.known c.loop-number.text.items lt (sym c.is_imp.ensures ∙ w.if-is_imp.false) c.loop-number.invariant.3))),
      )
    ]

pub returns-clause-known : goal.returns-clause-known
returns-clause-known c =
    let n : Net = c.args.subnet.now.net in
    let past : length n.imps ≤ c.loop-number.number = omega (arith, c.loop-number-test.false, c.loop-number.invariant.1) in
    let whole : List ℕ = extended c.args.object.items (changed_lists c.args.known.now (all_flows n)) in
    let all : AllFlowsPut (all_flows n) c.loop-number.known c.loop-number.text.items whole =
    flows_done c.args.scope c.args.known.now n c.loop-number.invariant.0 whole c.loop-number.number c.loop-number.place c.loop-number.known c.loop-number.text.items past c.loop-number.invariant.3 in
    search (rules, all.all)

pub returns-clause-changed : goal.returns-clause-changed
returns-clause-changed c =
    let n : Net = c.args.subnet.now.net in
    let past : length n.imps ≤ c.loop-number.number = omega (arith, c.loop-number-test.false, c.loop-number.invariant.1) in
    let whole : List ℕ = extended c.args.object.items (changed_lists c.args.known.now (all_flows n)) in
    let all : AllFlowsPut (all_flows n) c.loop-number.known c.loop-number.text.items whole =
    flows_done c.args.scope c.args.known.now n c.loop-number.invariant.0 whole c.loop-number.number c.loop-number.place c.loop-number.known c.loop-number.text.items past c.loop-number.invariant.3 in
    search (rules, all.written)
