use Rattle.trace.proofs.Common.{◌<◌, ◌≤◌, ◌++◌, arith, codes, length, subst, ℕ, List, ◌∙◌, Appends, on_ok, listed}
use Rattle.trace.proofs.Left.{all_printed, item_printed}
use Rattle.trace.proofs.json.print_some.Goals as goal

pub loop-place-preserved : goal.loop-place-preserved
loop-place-preserved g c =
    let texts = g.L.Listed.texts c.args.list.now in
    let whole : List ℕ = codes "[" ++ listed (codes "]") texts in
    let within : c.loop-place.place < length texts = omega (arith, c.loop-place-test.true, c.loop-place.invariant.0) in
    let mark = subst (Appends (g.W.Output.contents c.loop-place.writer) (g.W.Output.contents c.write_all.new.self)) (c.as_bytes.ensures.value ∙ c.mark.ensures) c.in_ok-write_all.ensures.written in (
      c.loop-place.invariant.0,
      c.in_ok-print_at.ensures.failed,
      item_printed (codes "[") (codes "]") texts c.loop-place.place whole (g.W.Output.contents c.args.writer.now) (g.W.Output.contents c.loop-place.writer) (g.W.Output.contents c.write_all.new.self) (g.W.Output.contents c.print_at.new.writer)
          within c.loop-place.invariant.2 mark c.in_ok-print_at.ensures.written,
    )

pub returns-clause-written : goal.returns-clause-written
returns-clause-written g c =
    let texts = g.L.Listed.texts c.args.list.now in
    let whole : List ℕ = codes "[" ++ listed (codes "]") texts in
    let past : length texts ≤ c.loop-place.place = omega (arith, c.loop-place-test.false, c.loop-place.invariant.0) in
    on_ok c.write_all-2.result
    (λ end. all_printed (codes "[") (codes "]") texts c.loop-place.place whole (g.W.Output.contents c.args.writer.now) (g.W.Output.contents c.loop-place.writer) (g.W.Output.contents c.write_all-2.new.self)
    c.requires.some past c.loop-place.invariant.2 end)
    c.write_all-2.ensures.written
