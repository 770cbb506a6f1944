use Rattle.interface.specs.Calls.{Calls}
use Rattle.world_replay.proofs.Once.{first_part, one_replay}
use Rattle.world_replay.proofs.law.one_replay.Goals as goal

pub returns : goal.returns
returns g c =
    let calls : Calls g.row.C.Denot = g.C.Carrier.calls in
    record { same = one_replay calls; first_part = first_part calls }
