use Rattle.net_sim.specs.Carriers.{shown}
use Rattle.world_replay.proofs.Replayable.{world_replayable}
use Rattle.world_replay.proofs.replayed.MixedWorldReplayed.is_replayable.Goals as goal

pub returns : goal.returns
returns g c = world_replayable (shown g.C.Carrier.calls)
