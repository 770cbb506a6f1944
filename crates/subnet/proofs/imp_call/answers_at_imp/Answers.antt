use Rattle.subnet.specs.declared.imp_call.ImpCall.TheVariants as variants
use Rattle.subnet.proofs.Calls.Living.{live_again_read}
use Rattle.subnet.proofs.imp_call.answers_at_imp.Goals as goal

pub returns-clause-live : goal.returns-clause-live
returns-clause-live c =
    live_again_read c.answers_at.result c.args.imps.now c.args.imp c.answers_at.new.place c.index-imps-at.result (variants.Arrive c.args.port c.args.frame.now) c.if-at-imps.false c.requires
    c.answers_at.ensures.taken c.answers_at.ensures.left c.answers_at.ensures.live
