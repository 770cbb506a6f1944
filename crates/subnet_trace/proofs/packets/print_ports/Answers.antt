use Rattle.subnet_trace.proofs.Common.{◌+◌, ℕ, Option, ap, arith, subst, sym, ◌∙◌, Appends, on_ok, next_text, Remains}
use Rattle.subnet_trace.specs.Printing.{next_behind, place_after}
use Rattle.subnet_trace.proofs.Printing.{next_printed, ports_left, ports_printed}
use Rattle.subnet_trace.proofs.packets.print_ports.Goals as goal

pub loop-index-preserved : goal.loop-index-preserved
loop-index-preserved g c =
    let t = c.args.routes.now in
    let i : ℕ = c.loop-index.index in (
      c.in_ok-place.ensures.failed,
      subst (λ (place : ℕ). Remains (g.W.Output.contents c.args.writer.now) (g.W.Output.contents c.print_next.new.writer) (ports_left t place (i + 1)) (next_text t)) (sym (c.in_ok-place.ensures.place ∙ ap (place_after c.loop-index.place) c.next.ensures.next))
          (next_printed t i c.loop-index.place (next_text t) (g.W.Output.contents c.args.writer.now) (g.W.Output.contents c.loop-index.writer) (g.W.Output.contents c.print_next.new.writer)
          (omega (arith, c.loop-index-test.true)) c.loop-index.invariant.1
          (subst (λ (o : Option ℕ). Appends (g.W.Output.contents c.loop-index.writer) (g.W.Output.contents c.print_next.new.writer) (next_behind c.loop-index.place (i + 1) o)) c.next.ensures.next c.in_ok-place.ensures.written)),
    )

pub returns-clause-written : goal.returns-clause-written
returns-clause-written g c =
    on_ok c.write_all.result
    (λ end. ports_printed c.args.routes.now c.loop-index.index c.loop-index.place (g.W.Output.contents c.args.writer.now) (g.W.Output.contents c.loop-index.writer) (g.W.Output.contents c.write_all.new.self) (omega (arith, c.loop-index-test.false)) c.loop-index.invariant.1
    (subst (Appends (g.W.Output.contents c.loop-index.writer) (g.W.Output.contents c.write_all.new.self)) (c.as_bytes.ensures.value ∙ c.mark.ensures) end))
    c.write_all.ensures.written
