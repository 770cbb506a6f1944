use Rattle.std.proofs.Common.{◌≡◌, ◌≤◌, length, take, reverse}
use Rattle.net_sim.specs.Inside.Audit.{is_fresh}
use Rattle.net_sim.proofs.auditing.messages.is_fresh.Given as goal

abbrev pub invariant-back : goal.invariant-back
invariant-back l = record { within : l.at ≤ length l.log; same : is_fresh l.message (reverse (take l.at l.log)) ≡ is_fresh l.message (reverse l.log) }

abbrev pub decreases-back : goal.decreases-back
decreases-back l = l.at
