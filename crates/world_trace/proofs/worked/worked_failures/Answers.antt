use Rattle.world_trace.proofs.Common.{shown, Calls}
use Rattle.world_trace.proofs.Failures.{row_no_line, row_nothing}
use Rattle.world_trace.proofs.worked.worked_failures.Goals as goal

pub returns : goal.returns
returns g c =
    let calls : Calls g.row.C.Denot = shown g.C.Carrier.calls in
    record { nothing = row_nothing calls; no_line = row_no_line calls }
