use Rattle.std.proofs.Common.{◌≡◌, ℕ, ◌+◌, ◌<◌, ◌≤◌, get_or, drop, min}
use Rattle.interface.specs.Host.{most_imps}
use Rattle.routing.specs.Vector.{infinite}
use Rattle.routing.specs.RouteTable.{least_heard}
use Rattle.routing.proofs.route_table.all_least_heard.Given as goal

-- the least distances of the ports so far, and of those that are left
abbrev pub invariant-loop-heard : goal.invariant-loop-heard
invariant-loop-heard l = record {
  least : (k : ℕ) → k < most_imps → min (get_or l.least k 0) (least_heard (drop l.heard-index l.ports) (k + 1)) ≡ least_heard l.ports (k + 1);
  no_imp : (imp : ℕ) → most_imps < imp → least_heard (drop l.heard-index l.ports) imp ≡ least_heard l.ports imp;
  most : (k : ℕ) → k < most_imps → get_or l.least k 0 ≤ infinite;
}
