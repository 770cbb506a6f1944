use Rattle.trace.proofs.Common.{slice_get_read, Crossed, shown_crossings, shown_refusal, shown_text, Sizes, on_ok}
use Rattle.std.proofs.Common.{◌≡◌, ◌++◌, Some, arith, length, slice_get}
use Rattle.trace.proofs.Joined.{crossed_at, one_more, shown_printed}
use Rattle.trace.proofs.line.print_shown.Goals as goal

pub loop-place-preserved : goal.loop-place-preserved
loop-place-preserved g c =
    let cs = c.args.crossings.now in
    let r = c.args.outcome in
    let item : slice_get cs c.loop-place.place ≡ Some c.index-crossings-place.result = slice_get_read cs (length cs) c.loop-place.place c.index-crossings-place.result (λ i. length cs) c.loop-place-test.true c.index-crossings-place.is in (
      c.loop-place.invariant.0,
      omega (arith, c.loop-place-test.true),
      c.in_ok-print_crossed.ensures.failed,
      one_more (shown_text Sizes) (shown_crossings cs ++ shown_refusal r) c.loop-place.place (Crossed c.index-crossings-place.result) (g.W.Output.contents c.args.writer.now) (g.W.Output.contents c.loop-place.writer) (g.W.Output.contents c.print_comma.new.writer) (g.W.Output.contents c.print_crossed.new.writer)
          (crossed_at cs (shown_refusal r) c.loop-place.place c.index-crossings-place.result item) c.loop-place.invariant.3 c.in_ok-print_comma.ensures.written c.in_ok-print_crossed.ensures.written,
    )

pub returns-clause-written : goal.returns-clause-written
returns-clause-written g c =
    let here : c.loop-place.place ≡ length c.args.crossings.now = omega (arith, c.loop-place.invariant.0, c.loop-place.invariant.1, c.loop-place-test.false) in
    on_ok c.write_all-2.result
    (λ end. shown_printed c.args.crossings.now c.args.outcome c.loop-place.place (g.W.Output.contents c.args.writer.now) (g.W.Output.contents c.loop-place.writer) (g.W.Output.contents c.print_refused.new.writer) (g.W.Output.contents c.write_all-2.new.self) here c.loop-place.invariant.3 c.in_ok-print_refused.ensures.written end)
    c.write_all-2.ensures.written
