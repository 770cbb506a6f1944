use Rattle.subnet_trace.proofs.Common.{◌∙◌, ap, subst, Appends, on_ok, concluded_text}
use Rattle.subnet_trace.proofs.ways.print_concluded.Goals as goal

pub returns-clause-written : goal.returns-clause-written
returns-clause-written g c =
    on_ok c.write_all.result
    (λ end. subst (Appends (g.W.Output.contents c.args.writer.now) (g.W.Output.contents c.write_all.new.self)) (c.concluded.ensures ∙ ap concluded_text (c.is_of.ensures c.if-is_of.true)) end)
    c.write_all.ensures.written
