use Rattle.subnet_trace.proofs.Common.{◌≡◌, ◌<◌, ◌≤◌, ℕ, ap, arith, codes, length, subst, ◌∙◌, get_or_read, Appends, Appends-trans, Net, no_wire, wire_at, Line, part_name, named, line_text, mark, member}
use Rattle.subnet_trace.proofs.AllMembers.{lines_left, lines_over}
use Rattle.subnet_trace.proofs.PrintedParts.{all_written, fixed_begins, fixed_members, imp_printed, imps_done, last_place, line_printed}
use Rattle.subnet_trace.proofs.parts.print_fixed.Goals as goal

pub loop-imp-init : goal.loop-imp-init
loop-imp-init g c = (c.imp_places-imp-end.ensures, c.requires, fixed_begins c.args.subnet.now.net (g.W.Output.contents c.args.writer.now))

pub loop-imp-preserved : goal.loop-imp-preserved
loop-imp-preserved g c =
    let n : Net = c.args.subnet.now.net in
    let i : ℕ = c.loop-imp.imp in (
      c.loop-imp.invariant.0,
      c.in_ok-place.ensures.failed,
      imp_printed n i c.loop-imp.place c.in_ok-place.place (g.W.Output.contents c.args.writer.now) (g.W.Output.contents c.loop-imp.writer) (g.W.Output.contents c.print_imp_of.new.writer) (omega (arith, c.loop-imp-test.true, c.loop-imp.invariant.0)) c.loop-imp.invariant.2
          c.in_ok-place.ensures.written c.in_ok-place.ensures.place,
    )

pub loop-number-init : goal.loop-number-init
loop-number-init g c =
    let n : Net = c.args.subnet.now.net in (
      ap length c.lines-lines.ensures,
      c.loop-imp.invariant.1,
      imps_done n c.loop-imp.imp c.loop-imp.place (g.W.Output.contents c.args.writer.now) (g.W.Output.contents c.loop-imp.writer) (omega (arith, c.loop-imp-test.false, c.loop-imp.invariant.0)) c.loop-imp.invariant.2,
    )

pub loop-number-preserved : goal.loop-number-preserved
loop-number-preserved g c =
    let n : Net = c.args.subnet.now.net in
    let l : ℕ = c.loop-number.number in
    let wire : c.index-lines-number.result ≡ wire_at n.lines l = get_or_read c.lines-lines.result.now l c.index-lines-number.result c.loop-number-test.true c.index-lines-number.is no_wire ∙ ap (λ ws. wire_at ws l) c.lines-lines.ensures in
    let within : l < length n.lines = omega (arith, c.loop-number-test.true, c.loop-number.invariant.0) in (
      c.loop-number.invariant.0,
      c.in_ok-print_named_line.ensures.failed,
      line_printed n l c.loop-number.place (g.W.Output.contents c.args.writer.now) (g.W.Output.contents c.loop-number.writer) (g.W.Output.contents c.print_named_line.new.writer) within c.loop-number.invariant.2
          (Appends-trans (g.W.Output.contents c.loop-number.writer) (g.W.Output.contents c.write_all.new.self) (g.W.Output.contents c.print_named_line.new.writer) (mark (codes "{") (codes ",") c.loop-number.place) (named n (Line l))
          (subst (Appends (g.W.Output.contents c.loop-number.writer) (g.W.Output.contents c.write_all.new.self)) (c.as_bytes.ensures.value ∙ c.mark.ensures) c.in_ok-write_all.ensures.written)
          (subst (λ w. Appends (g.W.Output.contents c.write_all.new.self) (g.W.Output.contents c.print_named_line.new.writer) (member (part_name (Line l)) (line_text w))) wire c.in_ok-print_named_line.ensures.written)),
    )

pub returns-clause-written : goal.returns-clause-written
returns-clause-written g c =
    let n : Net = c.args.subnet.now.net in
    let past : length n.lines ≤ c.loop-number.number = omega (arith, c.loop-number-test.false, c.loop-number.invariant.0) in
    all_written (g.W.Output.contents c.args.writer.now) (g.W.Output.contents c.loop-number.writer) c.loop-number.place 0 (lines_left n c.loop-number.number) (fixed_members n) (lines_over n c.loop-number.number past) c.loop-number.invariant.2

pub returns-clause-place : goal.returns-clause-place
returns-clause-place g c =
    let n : Net = c.args.subnet.now.net in
    let past : length n.lines ≤ c.loop-number.number = omega (arith, c.loop-number-test.false, c.loop-number.invariant.0) in
    last_place (g.W.Output.contents c.args.writer.now) (g.W.Output.contents c.loop-number.writer) c.loop-number.place 0 (lines_left n c.loop-number.number) (fixed_members n) (lines_over n c.loop-number.number past) c.loop-number.invariant.2
