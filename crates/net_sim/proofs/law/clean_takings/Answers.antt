use Rattle.net_sim.proofs.Resets.Settled.{settled, world_settled}
use Rattle.net_sim.proofs.law.clean_takings.Goals as goal

pub returns : goal.returns
returns g c = record {
  stories = λ hosts newer older m addresses run time ours plain. settled hosts addresses newer older m run time ours plain;
  worlds =
      λ hosts w lawful newer older m parts ours plain.
      world_settled g.C.Carrier.calls.seen hosts w lawful newer older m parts ours plain;
}
