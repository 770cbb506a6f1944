use Rattle.std.proofs.Common.{◌≡◌, ◌≤◌, length, take, reverse}
use Rattle.promise.specs.Safe.{last_out}
use Rattle.net_sim.proofs.auditing.requests.last_out.Given as goal

abbrev pub invariant-back : goal.invariant-back
invariant-back l = record { within : l.at ≤ length l.log; same : last_out l.flow (reverse (take l.at l.log)) ≡ last_out l.flow (reverse l.log) }

abbrev pub decreases-back : goal.decreases-back
decreases-back l = l.at
