use Rattle.trace.proofs.Common.{ap, subst, sym, ◌∙◌, Appends, host_text, on_ok}
use Rattle.trace.specs.Texts.{crossing_object}
use Rattle.trace.proofs.Printed.{down_is, up_is}
use Rattle.trace.proofs.values.CrossingItem.print.Goals as goal

pub returns-in-Down-clause-written : goal.returns-in-Down-clause-written
returns-in-Down-clause-written g c =
    on_ok c.write.result
    (λ end. subst (Appends (g.W.Output.contents c.args.writer.now) (g.W.Output.contents c.write.new.self)) (down_is (host_text c.in-Down.host) ∙ ap crossing_object (sym c.in-Down.is)) end)
    c.write.ensures.written

pub returns-in-Up-clause-written : goal.returns-in-Up-clause-written
returns-in-Up-clause-written g c =
    on_ok c.write-in-Up.result
    (λ end. subst (Appends (g.W.Output.contents c.args.writer.now) (g.W.Output.contents c.write-in-Up.new.self)) (up_is (host_text c.in-Up.host) ∙ ap crossing_object (sym c.in-Up.is)) end)
    c.write-in-Up.ensures.written
