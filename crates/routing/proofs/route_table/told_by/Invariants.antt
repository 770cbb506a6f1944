use Rattle.std.proofs.Common.{false, ◌≡◌, ℕ, ◌+◌, ◌<◌, ◌≤◌, get_or, length, All}
use Rattle.interface.specs.Host.{most_imps}
use Rattle.routing.specs.Vector.{infinite}
use Rattle.routing.specs.RouteTable.{distance_to}
use Rattle.routing.proofs.route_table.told_by.Given as goal

-- the distances so far, none of them above the infinite one
abbrev pub invariant-loop-place : goal.invariant-loop-place
invariant-loop-place l = record {
  one_each : length l.distances ≡ most_imps;
  far : (k : ℕ) → k < l.place → get_or l.distances k 0 ≡ distance_to (record { own = l.own; heard = l.ports; claims = false }) (k + 1);
  in_range : All (λ d. d ≤ infinite) l.distances;
}
