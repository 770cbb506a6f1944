use Rattle.simulator.proofs.Common.{◌∙◌, Err, List, ap, inr, Host, shown, Calls, opening_mixed, told_memory}
use Rattle.simulator.proofs.Traces.AmongTraced.{among_ends, flushed_among}
use Rattle.simulator.proofs.tracing.trace_among.Goals as goal

pub returns-in-Ok-trace_mixed_world-clause-traced : goal.returns-in-Ok-trace_mixed_world-clause-traced
returns-in-Ok-trace_mixed_world-clause-traced g c =
    let calls : Calls g.row.C.Denot = shown g.C.Carrier.calls in
    flushed_among calls g.C.Inspect.inside.members c.args.network.now c.args.carrier c.in-Ok.world
    c.trace_mixed_world.new.world c.args.events.items (g.W.Output.contents c.args.writer.now)
    (g.W.Output.contents c.trace_mixed_world.new.writer) (g.W.Output.contents c.flush.new.self)
    (c.in-Ok.ensures.1 ∙ ap (λ (named : List Host). opening_mixed calls c.args.carrier named) c.strangers.ensures.all)
    c.in-Ok-trace_mixed_world.ensures.traced c.flush.ensures.kept

pub returns-clause-stopped : goal.returns-clause-stopped
returns-clause-stopped g c = λ e.
    let calls : Calls g.row.C.Denot = shown g.C.Carrier.calls in
    inr (among_ends calls g.C.Inspect.inside.members c.args.network.now c.args.carrier c.in-Ok.world
    c.trace_mixed_world.new.world c.args.events.items (g.W.Output.contents c.args.writer.now)
    (g.W.Output.contents c.trace_mixed_world.new.writer)
    (c.in-Ok.ensures.1 ∙ ap (λ (named : List Host). opening_mixed calls c.args.carrier named) c.strangers.ensures.all)
    (c.in-Err.ensures.memory (ap Err (told_memory c.in-Err.fault c.from.result c.from.ensures e))))
