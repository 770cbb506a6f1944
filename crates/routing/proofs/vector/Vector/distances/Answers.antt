use Rattle.std.proofs.Common.{ap, sym, ◌∙◌}
use Rattle.routing.specs.Vector.{is_vector}
use Rattle.routing.proofs.VectorLemmas.{is_vector-true}
use Rattle.routing.proofs.vector.Vector.distances.Goals as goal

pub returns-clause-tested : goal.returns-clause-tested
returns-clause-tested c = ap is_vector (sym c.self.view_is) ∙ is_vector-true c.self.inside.distances c.self.invariant
