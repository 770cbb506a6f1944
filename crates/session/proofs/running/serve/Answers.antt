use Rattle.std.proofs.Common.{◌≡◌, Err, inl, rules, subst, sym}
use Rattle.command_line.proofs.lemmas.{as_script}
use Rattle.command_line.specs.Events.{asked_of}
use Rattle.session.proofs.Sessions.{ends_as, reads, served}
use Rattle.session.proofs.running.serve.Goals as goal

pub returns-clause-ends : goal.returns-clause-ends
returns-clause-ends g c =
    served c.args.head.now _ _ _ c.serve_on.result
    (ends_as _ (reads c.args.head.now c.requires.opens.0 c.requires.opens.1 c.in_ok-network.field-0.network (asked_of c.in_ok-network.field-0.events) c.in_ok-network.ensures.read)
    _ _ c.serve_on.result c.serve_on.ensures.ends)
