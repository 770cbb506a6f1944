use Rattle.std.proofs.Common.{◌≡◌, ◌≤◌, length, take, reverse}
use Rattle.net_sim.specs.Inside.Audit.{was_taken}
use Rattle.net_sim.proofs.auditing.messages.was_taken.Given as goal

abbrev pub invariant-back : goal.invariant-back
invariant-back l = record { within : l.at ≤ length l.log; same : was_taken l.flow (reverse (take l.at l.log)) ≡ was_taken l.flow (reverse l.log) }

abbrev pub decreases-back : goal.decreases-back
decreases-back l = l.at
