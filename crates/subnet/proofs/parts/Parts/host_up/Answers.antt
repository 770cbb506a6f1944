use Rattle.subnet.proofs.Common.{sym, ◌∙◌, err_from_is_err_and}
use Rattle.subnet.proofs.Moves.Stepping.{host_up_failed}
use Rattle.subnet.proofs.parts.Parts.host_up.Goals as goal

pub returns-in_err-at_imp-clause-step : goal.returns-in_err-at_imp-clause-step
returns-in_err-at_imp-clause-step c =
    let p = err_from_is_err_and c.from_residual.result c.from_residual.ensures.1 in
    rw (p.1, p.2) (host_up_failed c.args.self.now c.at_imp.new.self c.args.host c.in_err-at_imp.field-0.0 (sym c.is_there.ensures ∙ c.if-not-is_there.false) (rw (c.imp.ensures.same, c.host.ensures.same) at c.in_err-at_imp.ensures.call))
