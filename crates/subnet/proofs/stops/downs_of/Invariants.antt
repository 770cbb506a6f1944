use Rattle.subnet.proofs.Common.{◌≡◌, ◌<◌, ◌≤◌, ◌++◌, drop, length, downs_in_order}
use Rattle.subnet.proofs.stops.downs_of.Given as goal

-- the crossings so far, and those of the hosts that are left
abbrev pub invariant-loop-host : goal.invariant-loop-host
invariant-loop-host l = record {
  state : l.downs.items ++ downs_in_order l.imp l.host (drop l.host l.up.hosts) ≡ downs_in_order l.imp 0 l.up.hosts;
  few : 0 < l.host → length l.up.hosts ≤ 4;
}
