use Rattle.routing.proofs.RoundsLemmas.{settled_keeps, right}
use Rattle.routing.proofs.law.settling.Goals as goal

pub returns : goal.returns
returns c = record {
  kept = settled_keeps;
  right = right;
}
