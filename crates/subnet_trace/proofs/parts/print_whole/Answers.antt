use Rattle.subnet_trace.proofs.Common.{◌≤◌, arith, length, subst, ◌∙◌, Appends, on_ok, Net}
use Rattle.subnet_trace.proofs.PrintedParts.{flows_begin, flows_printed, whole_printed}
use Rattle.subnet_trace.proofs.parts.print_whole.Goals as goal

pub loop-imp-init : goal.loop-imp-init
loop-imp-init g c = (
  c.imp_places-imp-end.ensures,
  c.in_ok-place.ensures.failed,
  flows_begin c.args.subnet.now.net c.in_ok-place.place (g.W.Output.contents c.args.writer.now) (g.W.Output.contents c.print_fixed.new.writer) c.in_ok-place.ensures.written c.in_ok-place.ensures.place,
)

pub loop-imp-preserved : goal.loop-imp-preserved
loop-imp-preserved g c = (
  c.loop-imp.invariant.0,
  c.in_ok-place-2.ensures.failed,
  flows_printed c.args.subnet.now.net c.loop-imp.imp c.loop-imp.place c.in_ok-place-2.place (g.W.Output.contents c.args.writer.now) (g.W.Output.contents c.loop-imp.writer) (g.W.Output.contents c.print_flows_of.new.writer)
      (omega (arith, c.loop-imp-test.true, c.loop-imp.invariant.0)) c.loop-imp.invariant.2 c.in_ok-place-2.ensures.written c.in_ok-place-2.ensures.place,
)

pub returns-clause-written : goal.returns-clause-written
returns-clause-written g c =
    let n : Net = c.args.subnet.now.net in
    let past : length n.imps ≤ c.loop-imp.imp = omega (arith, c.loop-imp-test.false, c.loop-imp.invariant.0) in
    on_ok c.write_all.result
    (λ end. whole_printed n c.loop-imp.imp c.loop-imp.place (g.W.Output.contents c.args.writer.now) (g.W.Output.contents c.loop-imp.writer) (g.W.Output.contents c.write_all.new.self) past c.loop-imp.invariant.2
    (subst (Appends (g.W.Output.contents c.loop-imp.writer) (g.W.Output.contents c.write_all.new.self)) (c.as_bytes.ensures.value ∙ c.mark.ensures) end))
    c.write_all.ensures.written
