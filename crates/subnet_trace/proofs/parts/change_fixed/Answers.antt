use Rattle.subnet_trace.proofs.Common.{◌≡◌, ◌∙◌, ◌++◌, ◌+◌, ◌<◌, ◌≤◌, ℕ, List, ap, arith, length, rules, subst, sym, get_or_read, Net, Wire, no_wire, wire_at, Line, all_parts, part_name, parts_members, has_line, IsOnlyIn, line_text, Scope, put_at, put_text, member}
use Rattle.trace.proofs.lemmas.{PutSoFar, AllPut, all_put}
use Rattle.subnet_trace.proofs.AllMembers.{imps_left, lines_left, lines_over}
use Rattle.subnet_trace.proofs.Scopes.{imp_put, imp_there, imps_put, line_put, line_there, none_are, none_there}
use Rattle.subnet_trace.proofs.parts.change_fixed.Goals.{then-is_imp+in_ok-text, else-is_imp}
use Rattle.subnet_trace.proofs.parts.change_fixed.Goals as goal

pub loop-number-init : goal.loop-number-init
loop-number-init c =
    let n : Net = c.args.subnet.now.net in
    let r : IsOnlyIn c.args.scope c.args.known.now n = c.requires.inside in
    (r, c.imp_places-number-end.ensures, omega arith, none_are c.args.known.now c.args.scope n r c.args.object.items c.requires.empty)

pub put-requires : goal.put-requires
put-requires c =
    let n : Net = c.args.subnet.now.net in
    let r : IsOnlyIn c.args.scope c.args.known.now n = c.loop-number.invariant.0 in
    imp_there c.args.known.now c.args.scope n r c.loop-number.number c.loop-number.place c.loop-number.known c.loop-number.text.items (omega (arith, c.loop-number-test.true, c.loop-number.invariant.1)) (sym c.is_imp.ensures ∙ c.if-is_imp.true) c.loop-number.invariant.3

pub loop-number-preserved : goal.loop-number-preserved
loop-number-preserved c =
    let n : Net = c.args.subnet.now.net in
    let s : Scope = c.args.scope in
    let i : ℕ = c.loop-number.number in
    let r : IsOnlyIn s c.args.known.now n = c.loop-number.invariant.0 in
    let lt : i < length n.imps = omega (arith, c.loop-number-test.true, c.loop-number.invariant.1) in
    let before : List (List ℕ) = c.args.known.now in
    let now : List (List ℕ) = parts_members n (all_parts n) in
    let place : ℕ = c.loop-number.place in
    let olds : List (List ℕ) = imps_left r.0 (i + 1) in
    let news : List (List ℕ) = imps_left n (i + 1) in
    elim c.if-is_imp.branch [
      | then-is_imp+in_ok-text w ↦ (
        r,
        c.loop-number.invariant.1,
        omega (arith, c.loop-number.invariant.2, w.place-is),
        subst (λ (k : ℕ). PutSoFar before now k c.if-is_imp.known c.if-is_imp.text.items olds news) (sym w.place-is)
            (imp_put before s n r i place w.has_imp.result c.loop-number.known c.if-is_imp.known c.loop-number.text.items c.if-is_imp.text.items lt (sym c.is_imp.ensures ∙ w.if-is_imp.true) w.has_imp.ensures
            (w.known-is ∙ w.in_ok-text.ensures.members) (ap (λ t. t.items) w.text-is ∙ w.in_ok-text.ensures.object) c.loop-number.invariant.3),
      )
      | else-is_imp w ↦ (
        r,
        c.loop-number.invariant.1,
        omega (arith, c.loop-number.invariant.2, w.place-is),
        subst (λ (k : ℕ). PutSoFar before now k c.if-is_imp.known c.if-is_imp.text.items olds news) (sym w.place-is)
            (subst (λ (ms : List (List ℕ)). PutSoFar before now place ms c.if-is_imp.text.items olds news) (sym w.known-is)
            (subst (λ (t : List ℕ). PutSoFar before now place c.loop-number.known t olds news) (sym (ap (λ t. t.items) w.text-is))
            (none_there before s n r i place c.loop-number.known c.loop-number.text.items lt (sym c.is_imp.ensures ∙ w.if-is_imp.false) c.loop-number.invariant.3))),
      )
    ]

pub loop-number-2-init : goal.loop-number-2-init
loop-number-2-init c =
    let n : Net = c.args.subnet.now.net in
    let s : Scope = c.args.scope in
    let i : ℕ = c.loop-number.number in
    let r : IsOnlyIn s c.args.known.now n = c.loop-number.invariant.0 in
    let past : length n.imps ≤ i = omega (arith, c.loop-number-test.false, c.loop-number.invariant.1) in
    let few : c.imp_places-number-end.result ≤ 255 = search rules in
    (r, ap length c.lines-lines.ensures, omega (arith, few, c.loop-number.invariant.2, c.loop-number.auto.number-end), imps_put c.args.known.now s n r i c.loop-number.place c.loop-number.known c.loop-number.text.items past c.loop-number.invariant.3)

pub put-requires-in-loop-number-2 : goal.put-requires-in-loop-number-2
put-requires-in-loop-number-2 c =
    let n : Net = c.args.subnet.now.net in
    let r : IsOnlyIn c.args.scope c.args.known.now n = c.loop-number-2.invariant.0 in
    line_there c.args.known.now c.args.scope n r c.loop-number-2.number c.loop-number-2.place c.loop-number-2.known c.loop-number-2.text.items (omega (arith, c.loop-number-2-test.true, c.loop-number-2.invariant.1)) c.loop-number-2.invariant.3

pub loop-number-2-preserved : goal.loop-number-2-preserved
loop-number-2-preserved c =
    let n : Net = c.args.subnet.now.net in
    let s : Scope = c.args.scope in
    let l : ℕ = c.loop-number-2.number in
    let r : IsOnlyIn s c.args.known.now n = c.loop-number-2.invariant.0 in
    let lt : l < length n.lines = omega (arith, c.loop-number-2-test.true, c.loop-number-2.invariant.1) in
    let wire : c.index-lines-number.result ≡ wire_at n.lines l = get_or_read c.lines-lines.result.now l c.index-lines-number.result c.loop-number-2-test.true c.index-lines-number.is no_wire ∙ ap (λ ws. wire_at ws l) c.lines-lines.ensures in
    let place : ℕ = c.loop-number-2.place in
    let known : List (List ℕ) = c.loop-number-2.known in
    let text : List ℕ = c.loop-number-2.text.items in (
      r,
      c.loop-number-2.invariant.1,
      omega (arith, c.loop-number-2.invariant.2),
      line_put c.args.known.now s n r l place c.has_line.result known c.put-in-loop-number-2.new.self text c.in_ok-text-2.text.items lt
          (c.has_line.ensures ∙ ap (λ (w : Wire). has_line s l w) wire)
          (c.in_ok-text-2.ensures.members ∙ ap (λ (w : Wire). put_at c.has_line.result known place (member (part_name (Line l)) (line_text w))) wire)
          (c.in_ok-text-2.ensures.object ∙ ap (λ (w : Wire). put_text c.has_line.result known place (member (part_name (Line l)) (line_text w)) text) wire) c.loop-number-2.invariant.3,
    )

pub returns-clause-known : goal.returns-clause-known
returns-clause-known c =
    let n : Net = c.args.subnet.now.net in
    let l : ℕ = c.loop-number-2.number in
    let r : IsOnlyIn c.args.scope c.args.known.now n = c.loop-number-2.invariant.0 in
    let past : length n.lines ≤ l = omega (arith, c.loop-number-2-test.false, c.loop-number-2.invariant.1) in
    let was : length r.0.lines ≤ l = omega (arith, past, r.2.lines) in
    let all : AllPut c.args.known.now (parts_members n (all_parts n)) c.loop-number-2.known c.loop-number-2.text.items =
    all_put c.args.known.now (parts_members n (all_parts n)) c.loop-number-2.place c.loop-number-2.known c.loop-number-2.text.items (lines_left r.0 l) (lines_left n l) (lines_over r.0 l was) (lines_over n l past) c.loop-number-2.invariant.3 in
    search (rules, all.all)

pub returns-clause-changed : goal.returns-clause-changed
returns-clause-changed c =
    let n : Net = c.args.subnet.now.net in
    let l : ℕ = c.loop-number-2.number in
    let r : IsOnlyIn c.args.scope c.args.known.now n = c.loop-number-2.invariant.0 in
    let past : length n.lines ≤ l = omega (arith, c.loop-number-2-test.false, c.loop-number-2.invariant.1) in
    let was : length r.0.lines ≤ l = omega (arith, past, r.2.lines) in
    let text : List ℕ = c.loop-number-2.text.items in
    let all : AllPut c.args.known.now (parts_members n (all_parts n)) c.loop-number-2.known text =
    all_put c.args.known.now (parts_members n (all_parts n)) c.loop-number-2.place c.loop-number-2.known text (lines_left r.0 l) (lines_left n l) (lines_over r.0 l was) (lines_over n l past) c.loop-number-2.invariant.3 in
    search (rules, all.written)
