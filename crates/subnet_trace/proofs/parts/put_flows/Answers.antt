use Rattle.subnet_trace.proofs.Common.{◌≡◌, ◌∙◌, ◌+◌, List, Option, ap, [], rules, sym, true, ℕ, IfOk-weaker, imp_at, State, kept_of, sources_of, changed_flows, extended, FlowPart}
use Rattle.subnet_trace.specs.Printing.{changed_at}
use Rattle.std.specs.Prelude.{slice_index_or}
use Rattle.subnet_trace.proofs.FlowLists.{both_put}
use Rattle.subnet_trace.proofs.parts.put_flows.Goals as goal

pub returns-clause-changed : goal.returns-clause-changed
returns-clause-changed c =
    let o : Option State = imp_at c.args.subnet.now.net.imps c.args.number in
    let yes : c.args.may ≡ true = search rules in
    let a : List FlowPart = c.in_ok-sources_of.field-0.items in
    let b : List FlowPart = c.in_ok-kept_of.field-0.items in
    let sources : a ≡ sources_of o = c.in_ok-sources_of.ensures ∙ ap sources_of c.imp-imp.ensures in
    let kept : b ≡ kept_of o = c.in_ok-kept_of.ensures ∙ ap kept_of c.imp-imp.ensures in
    let first : List ℕ = c.in_ok-text.text.items in
    IfOk-weaker c.put-2.result (λ text. text.items ≡ extended first (changed_flows (slice_index_or c.put.new.self (c.args.place + 1) []) b)) (λ text. text.items ≡ extended c.args.object.items (changed_at c.args.may c.args.known.now c.args.place o))
    (λ text two. both_put c.args.known.now c.put.new.self c.args.place o a b c.args.object.items first text.items sources kept c.in_ok-text.ensures.lists c.in_ok-text.ensures.object two ∙ ap (λ may. extended c.args.object.items (changed_at may c.args.known.now c.args.place o)) (sym yes))
    c.put-2.ensures.object
