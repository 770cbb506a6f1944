use Rattle.subnet.proofs.Common.{◌≡◌, to_host, given_at, frames_by}
use Rattle.subnet.proofs.Calls.Living.{live_taking_read}
use Rattle.subnet.proofs.taking.take_at_imp.Goals as goal

pub returns-clause-live : goal.returns-clause-live
returns-clause-live c =
    live_taking_read c.take_at.result c.args.imps.now c.args.imp c.args.host c.take_at.new.place c.index-imps-at.result (λ o given. given.0 ≡ given_at o c.args.host) (λ o given. given.1.items ≡ frames_by o (λ s. to_host s c.args.host)) c.if-at-imps.false c.requires c.take_at.ensures.call c.take_at.ensures.live
