use Rattle.net_sim.proofs.Common.{◌≡◌, drop, LivesState}
use Rattle.net_sim.specs.Inside.Lives as all
use Rattle.net_sim.proofs.lives.none_stops.Given as goal

-- what is left decides
abbrev pub invariant-loop-crossing : goal.invariant-loop-crossing
invariant-loop-crossing l = (s : LivesState) → all.all_crossed l.news s ≡ all.all_crossed (drop l.crossing-index l.news) s
