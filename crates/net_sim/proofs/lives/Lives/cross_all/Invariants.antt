use Rattle.net_sim.proofs.Common.{◌≡◌, drop, GoesBack}
use Rattle.net_sim.specs.Inside.Lives as all
use Rattle.net_sim.proofs.lives.Lives.cross_all.Given as goal

abbrev pub invariant-loop-crossing : goal.invariant-loop-crossing
invariant-loop-crossing l = record {
  rest : all.all_crossed (drop l.crossing-index l.crossings) l.self ≡ all.all_crossed l.crossings l.fn.self;
  back : GoesBack l.fn.done.items l.fn.self l.done.items l.self;
}
