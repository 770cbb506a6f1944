use Rattle.std.proofs.Common.{◌≡◌, ◌+◌, length, take}
use Rattle.std.specs.List.{sum_by}
use Rattle.imp_node.specs.Room.{busy_channels}
use Rattle.subnet_trace.proofs.fates.has_place.Given as goal

-- the packets that wait, and those in channels of the ports so far
abbrev pub invariant-loop-port : goal.invariant-loop-port
invariant-loop-port l = l.stored ≡ length l.imp.store + sum_by busy_channels (take l.port-index l.port-items)
