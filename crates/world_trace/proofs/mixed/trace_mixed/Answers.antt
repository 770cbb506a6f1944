use Rattle.world_trace.proofs.Common.{shown, Calls}
use Rattle.world_trace.proofs.Strangers.{tells_mixed}
use Rattle.world_trace.proofs.mixed.trace_mixed.Goals as goal

pub returns-clause-ends : goal.returns-clause-ends
returns-clause-ends g c =
    let calls : Calls g.row.C.Denot = shown g.C.Carrier.calls in
    tells_mixed calls g.C.Inspect.inside.members c.args.spot c.args.world.now c.pass.new.world c.args.event
    c.in_ok-passed.passed (g.W.Output.contents c.args.writer.now) (g.W.Output.contents c.print_line.new.writer)
    c.in_ok-passed.ensures.passed c.in_ok-print_line.ensures.written
