use Rattle.net_sim.proofs.Common.{◌≡◌, true, take, list_all, may_both}
use Rattle.std.proofs.Common.{reverse}
use Rattle.net_sim.proofs.auditing.partners.odds_with.Given as goal

abbrev pub invariant-loop-first : goal.invariant-loop-first
invariant-loop-first l = list_all (λ x. may_both (reverse l.log) x l.y) (take l.first l.lives) ≡ true
