use Rattle.std.proofs.Common.{refl, rules, ◌∙◌}
use Rattle.net_sim.specs.Inside.Lives as all
use Rattle.net_sim.proofs.Books.Undoing.{next_of}
use Rattle.net_sim.proofs.lives.Lives.ask_all.Goals as goal

pub loop-request-preserved : goal.loop-request-preserved
loop-request-preserved c = record {
  rest = next_of (all.all_asked c.args.host) (all.asked c.args.host) (λ x xs s. refl) c.args.requests.now c.loop-request.request-index c.request-item.result c.loop-request.self c.ask.new.self _ (search rules) (search rules) c.loop-request.invariant.rest;
  back = c.ask.ensures.back ∙ c.loop-request.invariant.back;
}

pub returns-in_err-ask-clause-back : goal.returns-in_err-ask-clause-back
returns-in_err-ask-clause-back c = c.ask.ensures.back ∙ c.loop-request.invariant.back

pub returns-clause-back : goal.returns-clause-back
returns-clause-back c = c.loop-request.invariant.back
