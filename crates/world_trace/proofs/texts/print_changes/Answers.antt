use Rattle.world_trace.proofs.Common.{List, subst, ℕ, Appends, on_ok}
use Rattle.world_trace.proofs.Lines.{objects_printed}
use Rattle.world_trace.proofs.texts.print_changes.Goals as goal

pub returns-clause-written : goal.returns-clause-written
returns-clause-written g c =
    let a = g.W.Output.contents c.args.writer.now in
    let b = g.W.Output.contents c.write_all.new.self in
    let d = g.W.Output.contents c.write_all-2.new.self in
    let e = g.W.Output.contents c.write_all-3.new.self in
    let f = g.W.Output.contents c.write_all-4.new.self in
    let h = g.W.Output.contents c.write_all-5.new.self in
    let i = g.W.Output.contents c.write_all-6.new.self in
    on_ok c.write_all-6.result
    (λ last. objects_printed c.args.changes.now.parts.items c.args.changes.now.programs.items c.args.changes.now.services.items a b d e f h i
    (subst (λ (t : List ℕ). Appends a b t) c.deref.ensures.value c.in_ok-write_all.ensures.written) c.in_ok-write_all-2.ensures.written (subst (λ (t : List ℕ). Appends d e t) c.deref-2.ensures.value c.in_ok-write_all-3.ensures.written) c.in_ok-write_all-4.ensures.written
    (subst (λ (t : List ℕ). Appends f h t) c.deref-3.ensures.value c.in_ok-write_all-5.ensures.written) last)
    c.write_all-6.ensures.written
