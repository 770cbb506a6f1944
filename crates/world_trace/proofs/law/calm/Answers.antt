use Rattle.world_trace.proofs.Common.{shown, Calls}
use Rattle.world_trace.proofs.Rounds.Passing.{round_passes}
use Rattle.world_trace.proofs.law.calm.Goals as goal

pub returns : goal.returns
returns g c =
    let calls : Calls g.row.C.Denot = shown g.C.Carrier.calls in
    record { round = λ members spot old new round lines h. round_passes calls members spot round old new lines h }
