-- What the code of a table keeps.
use Rattle.std.specs.Prelude.{◌≡◌, ℕ, ◌<◌, List}
use Rattle.interface.specs.Host.{most_imps}
use Rattle.routing.specs.Vector.{infinite}
use Rattle.routing.specs.RouteTable.{Table, least_heard, distances_of}

-- these are the table's distances, and no port has heard of an IMP that there can't be
pub record IsKept (t : Table) (told : List ℕ) : Type 0 where
  pub told_is : told ≡ distances_of t
  pub no_imp : (imp : ℕ) → most_imps < imp → least_heard t.heard imp ≡ infinite
