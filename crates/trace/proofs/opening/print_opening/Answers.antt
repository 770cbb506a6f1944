use Rattle.trace.proofs.Common.{codes, subst, Appends, on_ok, members_of, object}
use Rattle.trace.specs.Joined.{network_front}
use Rattle.trace.proofs.Joined.{opening_is}
use Rattle.trace.proofs.Printed.{three}
use Rattle.trace.proofs.opening.print_opening.Goals as goal

pub returns-clause-written : goal.returns-clause-written
returns-clause-written g c =
    let t = c.args.network.now in
    let parts = object (members_of (g.C.Inspect.inside.members c.args.carrier.now)) in
    on_ok c.write_all.result
    (λ end. subst (Appends (g.W.Output.contents c.args.writer.now) (g.W.Output.contents c.write_all.new.self)) (opening_is t parts)
    (three (network_front t) parts (codes "}\n") (g.W.Output.contents c.args.writer.now) (g.W.Output.contents c.print_network.new.writer) (g.W.Output.contents c.print_whole.new.writer) (g.W.Output.contents c.write_all.new.self)
    c.in_ok-print_network.ensures.written c.in_ok-print_whole.ensures.written end))
    c.write_all.ensures.written
