use Rattle.std.proofs.Common.{◌≡◌, ◌-◌}
use Rattle.subnet.proofs.Calls.Starts.{down_to}
use Rattle.subnet.proofs.starting.start.Given as goal

-- the first hosts are down
abbrev pub invariant-loop-host : goal.invariant-loop-host
invariant-loop-host l = l.started ≡ down_to l.fn.imp l.ports l.host (l.hosts - l.host)
