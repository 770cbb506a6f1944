use Rattle.std.proofs.Common.{refl, rules, ◌∙◌}
use Rattle.promise.specs.declared.book.Told.{Told}
use Rattle.net_sim.specs.Inside.Lives as all
use Rattle.net_sim.proofs.Books.Undoing.{next_of}
use Rattle.net_sim.proofs.lives.Lives.tell_all.Goals as goal

pub loop-one-preserved : goal.loop-one-preserved
loop-one-preserved c = record {
  rest = next_of all.all_told (λ (t : Told). all.lives_state_told t.host t.notice) (λ x xs s. refl) c.args.told.now c.loop-one.one-index c.one-item.result c.loop-one.self c.tell.new.self _ (search rules) (search rules) c.loop-one.invariant.rest;
  back = c.tell.ensures.back ∙ c.loop-one.invariant.back;
}

pub returns-in_err-tell-clause-back : goal.returns-in_err-tell-clause-back
returns-in_err-tell-clause-back c = c.tell.ensures.back ∙ c.loop-one.invariant.back

pub returns-clause-back : goal.returns-clause-back
returns-clause-back c = c.loop-one.invariant.back
