use Rattle.interface.specs.Calls.{Calls}
use Rattle.world_replay.proofs.Driven.{replay_drives, script_driven}
use Rattle.world_replay.proofs.law.driven.Goals as goal

pub returns : goal.returns
returns g c =
    let calls : Calls g.row.C.Denot = g.C.Carrier.calls in
    record {
      event = λ old new e. script_driven calls e old new;
      whole = λ old new events. replay_drives calls events old new;
    }
