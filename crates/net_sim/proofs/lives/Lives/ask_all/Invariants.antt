use Rattle.net_sim.proofs.Common.{◌≡◌, drop, GoesBack}
use Rattle.net_sim.specs.Inside.Lives as all
use Rattle.net_sim.proofs.lives.Lives.ask_all.Given as goal

abbrev pub invariant-loop-request : goal.invariant-loop-request
invariant-loop-request l = record {
  rest : all.all_asked l.host (drop l.request-index l.requests) l.self ≡ all.all_asked l.host l.requests l.fn.self;
  back : GoesBack l.fn.done.items l.fn.self l.done.items l.self;
}
