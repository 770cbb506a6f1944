use Rattle.std.proofs.Common.{sym, ◌∙◌}
use Rattle.subnet.proofs.Moves.Stepping.{end_down_step}
use Rattle.subnet.proofs.parts.Parts.end_down.Goals as goal

pub returns-clause-step : goal.returns-clause-step
returns-clause-step c =
    end_down_step c.args.self.now c.at_imp.new.self c.args.imp c.args.line c.port-port.result c.at_imp.result
    (rw c.number-number.ensures.same at c.at_imp.ensures.call)
    (rw c.number-number.ensures.same at c.port-port.ensures)
    (rw c.number-number.ensures.same at (sym c.has_end.ensures.end ∙ c.if-not-has_end.false))
