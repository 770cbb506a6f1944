use Rattle.std.proofs.Common.{◌≡◌, true, reverse}
use Rattle.net_sim.specs.Inside.Audit.{some_fed}
use Rattle.net_sim.proofs.auditing.streams.unfed_at.Given as goal

abbrev pub invariant-loop-place : goal.invariant-loop-place
invariant-loop-place l = some_fed (reverse l.log) l.lives l.handed l.place ≡ true
