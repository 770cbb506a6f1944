use Rattle.world_replay.proofs.Common.{Calls, shown}
use Rattle.world_replay.proofs.CalmEvents.{calm_events}
use Rattle.world_replay.proofs.CalmRounds.{calm_rounds, rounds_calm}
use Rattle.world_replay.proofs.Turns.{calm_round, round_calm}
use Rattle.world_replay.proofs.law.calm.Goals as goal

pub returns : goal.returns
returns g c =
    let calls : Calls g.row.C.Denot = shown g.C.Carrier.calls in
    record {
      rounds = λ old new rounds. calm_rounds calls rounds old new;
      whole = λ old new rounds. rounds_calm calls rounds old new;
      events = λ old new rounds. calm_events calls rounds old new;
      turns = λ old new lines. (calm_round calls old new lines, round_calm calls old new lines);
    }
