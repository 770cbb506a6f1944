use Rattle.subnet.specs.declared.imp_call.ImpCall.TheVariants as variants
use Rattle.subnet.proofs.Calls.Living.{live_passed}
use Rattle.subnet.proofs.imp_call.pass_at_imp.Goals as goal

pub returns-clause-live : goal.returns-clause-live
returns-clause-live c =
    live_passed c.pass_at.result c.args.imps.now c.args.imp c.pass_at.new.place c.index-imps-at.result (variants.Arrive c.args.port c.args.frame) c.if-at-imps.false c.requires.live c.pass_at.ensures.taken c.pass_at.ensures.live
