use Rattle.std.proofs.Common.{refl}
use Rattle.routing.specs.RouteTable.{distance_to, vector_of}
use Rattle.routing.specs.Settle.{settled}
use Rattle.routing.proofs.law.worked_rounds.Goals as goal

pub returns : goal.returns
unfolding settled vector_of distance_to
returns c = record {
  one = refl;
  two = refl;
}
