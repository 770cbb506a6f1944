use Rattle.std.proofs.Common.{refl, rules, ◌∙◌}
use Rattle.net_sim.specs.Inside.Lives as all
use Rattle.net_sim.proofs.Books.Undoing.{next_of}
use Rattle.net_sim.proofs.lives.Lives.cross_all.Goals as goal

pub loop-crossing-preserved : goal.loop-crossing-preserved
loop-crossing-preserved c = record {
  rest = next_of all.all_crossed all.crossed (λ x xs s. refl) c.args.crossings.now c.loop-crossing.crossing-index c.crossing-item.result c.loop-crossing.self c.cross.new.self _ (search rules) (search rules) c.loop-crossing.invariant.rest;
  back = c.cross.ensures.back ∙ c.loop-crossing.invariant.back;
}

pub returns-in_err-cross-clause-back : goal.returns-in_err-cross-clause-back
returns-in_err-cross-clause-back c = c.cross.ensures.back ∙ c.loop-crossing.invariant.back

pub returns-clause-back : goal.returns-clause-back
returns-clause-back c = c.loop-crossing.invariant.back
