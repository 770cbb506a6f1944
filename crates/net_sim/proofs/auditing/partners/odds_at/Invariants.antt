use Rattle.std.proofs.Common.{◌≡◌, true, take, reverse}
use Rattle.net_sim.specs.Inside.Audit.{partners_hold}
use Rattle.net_sim.proofs.auditing.partners.odds_at.Given as goal

abbrev pub invariant-loop-second : goal.invariant-loop-second
invariant-loop-second l = partners_hold (reverse l.log) (take l.second l.lives) ≡ true
