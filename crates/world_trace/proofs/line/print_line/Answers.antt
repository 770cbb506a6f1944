use Rattle.world_trace.proofs.Common.{◌≡◌, ◌∙◌, List, ap, drop, map, reverse, subst, ℕ, decimal, Crossing, on_ok, Appends, ended_line}
use Rattle.trace.specs.Texts.{array, crossing_object}
use Rattle.world_trace.specs.Texts.{line_of, lines_text}
use Rattle.world_trace.specs.Steps.{state_objects}
use Rattle.net_sim.specs.Book.{Kept}
use Rattle.world_trace.proofs.Lines.{line_printed}
use Rattle.world_trace.proofs.line.print_line.Goals as goal

pub returns-clause-written : goal.returns-clause-written
returns-clause-written g c =
    let w = g.T.Traced.state c.args.world.now in
    let a = g.W.Output.contents c.args.writer.now in
    let e = g.W.Output.contents c.print_changes.new.writer in
    let p = c.args.passed.now in
    let state : List (List ℕ) = state_objects p.changes.parts.items p.changes.programs.items p.changes.services.items in
    let crossings : c.split_at.result.1.now ≡ drop p.crossed (reverse w.kept.book.crossings) =
    c.split_at.ensures.back ∙ ap (drop p.crossed) (c.crossings.ensures ∙ ap (λ (k : Kept). reverse k.book.crossings) c.book.ensures) in
    on_ok c.print_changes.result
    (λ end.
    subst (λ (name : List ℕ). Appends a e (ended_line (line_of c.args.spot c.args.round name (drop p.crossed (reverse w.kept.book.crossings)) p.printed.items state))) c.deref.ensures.value
    (subst (λ (printed : List ℕ). Appends a e (ended_line (line_of c.args.spot c.args.round c.deref.result.now (drop p.crossed (reverse w.kept.book.crossings)) printed state))) c.deref-2.ensures.value
    (subst (λ (crossed : List Crossing). Appends a e (ended_line (line_of c.args.spot c.args.round c.deref.result.now crossed c.deref-2.result.now state))) crossings
    (line_printed (decimal c.args.spot.line) (decimal c.args.spot.number) (decimal c.args.round) c.deref.result.now (array (map crossing_object c.split_at.result.1.now)) (lines_text c.deref-2.result.now)
    p.changes.parts.items p.changes.programs.items p.changes.services.items
    a (g.W.Output.contents c.print_head.new.writer) (g.W.Output.contents c.print_outcome.new.writer) (g.W.Output.contents c.write_all.new.self) e
    c.in_ok-print_head.ensures.written c.in_ok-print_outcome.ensures.written c.in_ok-write_all.ensures.written end))))
    c.print_changes.ensures.written
