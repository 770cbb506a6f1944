use Rattle.subnet.proofs.Common.{sym, ◌∙◌, err_from_is_err_and}
use Rattle.subnet.proofs.Moves.Stepping.{offer_failed}
use Rattle.subnet.proofs.parts.Parts.offer_out.Goals as goal

pub returns-in_err-at_imp-clause-call : goal.returns-in_err-at_imp-clause-call
returns-in_err-at_imp-clause-call c =
    let p = err_from_is_err_and c.from_residual.result c.from_residual.ensures.1 in
    rw (p.1, p.2) (offer_failed c.args.self.now c.at_imp.new.self c.args.message c.in_err-at_imp.field-0.0 (sym c.is_there.ensures ∙ c.if-not-is_there.false) (sym c.is_in_the_way.ensures ∙ c.if-is_in_the_way.false) (rw c.imp-imp.ensures.same at c.in_err-at_imp.ensures.call))
