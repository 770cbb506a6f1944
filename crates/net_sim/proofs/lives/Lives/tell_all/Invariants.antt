use Rattle.net_sim.proofs.Common.{◌≡◌, drop, GoesBack}
use Rattle.net_sim.specs.Inside.Lives as all
use Rattle.net_sim.proofs.lives.Lives.tell_all.Given as goal

abbrev pub invariant-loop-one : goal.invariant-loop-one
invariant-loop-one l = record {
  rest : all.all_told (drop l.one-index l.told) l.self ≡ all.all_told l.told l.fn.self;
  back : GoesBack l.fn.done.items l.fn.self l.done.items l.self;
}
