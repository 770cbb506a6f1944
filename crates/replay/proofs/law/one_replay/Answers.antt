use Rattle.replay.proofs.Common.{Calls}
use Rattle.replay.proofs.Settled.{first_part, replays_once}
use Rattle.replay.proofs.law.one_replay.Goals as goal

pub returns : goal.returns
returns g c = record {
  same =
      λ settled old new other events shown more h k.
      let calls : Calls g.row.C.Denot = g.C.Carrier.calls in
      let one = replays_once calls settled old events new other shown more h k in
      (one.carriers, one.lines);
  first_part =
      λ settled old new other events part whole h k.
      let calls : Calls g.row.C.Denot = g.C.Carrier.calls in
      let starts = first_part calls settled old events new other part whole h k in
      (starts.rest, starts.parts);
}
