use Rattle.world_trace.proofs.Common.{shown, Calls}
use Rattle.world_trace.proofs.Openings.AmongRows.{row_calm, row_counted, row_failed, row_memory, row_nothing, row_opened}
use Rattle.world_trace.proofs.worked_strangers.worked_among.Goals as goal

pub returns : goal.returns
returns g c =
    let calls : Calls g.row.C.Denot = shown g.C.Carrier.calls in
    record {
      opened = row_opened;
      counted = row_counted;
      calm = row_calm calls;
      memory = row_memory calls;
      failed = row_failed calls;
      nothing = row_nothing calls;
    }
