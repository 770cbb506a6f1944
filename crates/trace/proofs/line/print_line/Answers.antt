use Rattle.trace.proofs.Common.{List, ℕ, subst, Appends, Crossing, on_ok}
use Rattle.trace.specs.Joined.{fate_text, head_text, outcome_text}
use Rattle.trace.proofs.Joined.{line_is, line_printed}
use Rattle.trace.proofs.line.print_line.Goals as goal

pub returns-clause-written : goal.returns-clause-written
returns-clause-written g c =
    let cs : List Crossing = c.args.crossings.now in
    let parts : List ℕ = c.args.parts.now in
    on_ok c.write_all-3.result
    (λ end. subst (Appends (g.W.Output.contents c.args.writer.now) (g.W.Output.contents c.write_all-3.new.self)) (line_is c.args.spot c.args.round c.args.event.now c.args.fate cs c.args.outcome parts)
    (line_printed (head_text c.args.spot c.args.round c.args.event.now) (fate_text c.args.fate) (outcome_text cs c.args.outcome) parts (g.W.Output.contents c.args.writer.now) (g.W.Output.contents c.print_head.new.writer) (g.W.Output.contents c.print_fate.new.writer) (g.W.Output.contents c.print_outcome.new.writer) (g.W.Output.contents c.write_all.new.self) (g.W.Output.contents c.write_all-2.new.self) (g.W.Output.contents c.write_all-3.new.self)
    c.in_ok-print_head.ensures.written c.in_ok-print_fate.ensures.written c.in_ok-print_outcome.ensures.written c.in_ok-write_all.ensures.written c.in_ok-write_all-2.ensures.written end))
    c.write_all-3.ensures.written
