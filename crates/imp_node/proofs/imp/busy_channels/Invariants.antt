use Rattle.std.proofs.Common.{◌≡◌, ◌*◌, ◌≤◌, take}
use Rattle.std.specs.List.{sum_by}
use Rattle.imp_node.specs.Room.{busy_channels}
use Rattle.imp_node.proofs.imp.busy_channels.Given as goal

-- the ports so far
abbrev pub invariant-loop-port : goal.invariant-loop-port
invariant-loop-port l = record {
  count : l.busy ≡ sum_by busy_channels (take l.port-index l.ports);
  most : l.busy ≤ 8 * l.port-index;
}
