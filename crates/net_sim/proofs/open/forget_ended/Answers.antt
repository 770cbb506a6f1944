use Rattle.net_sim.proofs.Common.{rules, is_open_at}
use Rattle.std.proofs.lemmas.Fn.{filter_same}
use Rattle.net_sim.proofs.open.forget_ended.Goals as goal

pub returns : goal.returns
returns c = filter_same _ (is_open_at c.args.lives.now) _ (λ x b f' k. search rules) _ _ c.retain.ensures.filtered
