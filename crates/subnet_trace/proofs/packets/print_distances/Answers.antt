use Rattle.subnet_trace.proofs.Common.{◌+◌, ℕ, List, subst, sym, ◌∙◌, Appends, on_ok, Remains}
use Rattle.subnet_trace.proofs.Printing.{distance_printed, distances_left, distances_printed}
use Rattle.subnet_trace.proofs.packets.print_distances.Goals as goal

pub loop-index-preserved : goal.loop-index-preserved
loop-index-preserved g c =
    let ds : List ℕ = c.args.distances.now in
    let i : ℕ = c.loop-index.index in (
      c.loop-index.invariant.0,
      c.in_ok-place.ensures.failed,
      subst (λ (place : ℕ). Remains (g.W.Output.contents c.args.writer.now) (g.W.Output.contents c.print_distance.new.writer) (distances_left place (i + 1) ds) (distances_left 0 0 ds)) (sym c.in_ok-place.ensures.place)
          (distance_printed ds i c.loop-index.place (distances_left 0 0 ds) (g.W.Output.contents c.args.writer.now) (g.W.Output.contents c.loop-index.writer) (g.W.Output.contents c.print_distance.new.writer)
          c.loop-index-test.true c.loop-index.invariant.2 c.in_ok-place.ensures.written),
    )

pub returns-clause-written : goal.returns-clause-written
returns-clause-written g c =
    on_ok c.write_all.result
    (λ end. distances_printed c.args.distances.now c.loop-index.index c.loop-index.place (g.W.Output.contents c.args.writer.now) (g.W.Output.contents c.loop-index.writer) (g.W.Output.contents c.write_all.new.self) c.loop-index-test.false c.loop-index.invariant.2
    (subst (Appends (g.W.Output.contents c.loop-index.writer) (g.W.Output.contents c.write_all.new.self)) (c.as_bytes.ensures.value ∙ c.mark.ensures) end))
    c.write_all.ensures.written
