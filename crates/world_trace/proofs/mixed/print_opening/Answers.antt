use Rattle.world_trace.proofs.Common.{map, on_ok, array, bool_text, object, carrier_word, ends_text, site_text, seat_member, services_member, members_of}
use Rattle.world_trace.specs.MixedTraces.{stranger_text}
use Rattle.world_trace.proofs.Lines.{foreign_printed}
use Rattle.world_trace.proofs.mixed.print_opening.Goals as goal

pub returns-clause-written : goal.returns-clause-written
returns-clause-written g c =
    let w = c.args.world.now in
    let t = c.args.network.now in
    on_ok c.print_state.result
    (λ end. foreign_printed (carrier_word t.carrier) (bool_text t.raw) (array (map site_text t.imps))
    (array (map ends_text t.lines)) (object (members_of (g.C.Inspect.inside.members w.carrier)))
    (object (map seat_member w.seats)) (object (map services_member w.services))
    (array (map stranger_text c.args.world.now.strangers)) (g.W.Output.contents c.args.writer.now)
    (g.W.Output.contents c.print_network.new.writer) (g.W.Output.contents c.print_state.new.writer)
    c.in_ok-print_network.ensures.written end)
    c.print_state.ensures.written
