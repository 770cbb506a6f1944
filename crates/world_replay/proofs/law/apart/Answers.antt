use Rattle.interface.specs.Calls.{Calls}
use Rattle.world_replay.proofs.AtHosts.{others_stay, silent, turn_others_stay}
use Rattle.world_replay.proofs.law.apart.Goals as goal

pub returns : goal.returns
returns g c =
    let calls : Calls g.row.C.Denot = g.C.Carrier.calls in
    record { others = others_stay calls; turn_others = turn_others_stay calls; silent = silent calls }
