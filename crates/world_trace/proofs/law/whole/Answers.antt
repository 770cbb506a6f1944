use Rattle.net_sim.specs.Carriers.{shown}
use Rattle.world_trace.proofs.Replayed.{trace_replayed}
use Rattle.world_trace.proofs.Whole.{opening_told, reached_told, whole}
use Rattle.world_trace.proofs.Unspent.Worlds.{event_lasts}
use Rattle.world_trace.proofs.law.whole.Goals as goal

pub returns : goal.returns
returns g c = record {
  texts = whole;
  opening = opening_told g.C.Carrier.calls;
  lasting = λ old new e r goes gives. event_lasts (shown g.C.Carrier.calls) e old r new goes gives;
  reached = λ opening script w lines replays numbers. reached_told (shown g.C.Carrier.calls) opening script w lines replays numbers;
  traced = λ members opening events w lines traced. trace_replayed (shown g.C.Carrier.calls) members opening events w lines traced;
}
