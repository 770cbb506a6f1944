use Rattle.std.proofs.Common.{rules, not, ◌==◌}
use Rattle.std.proofs.lemmas.Fn.{filter_same}
use Rattle.host_pairs.specs.declared.listener.Listener.{Listener}
use Rattle.host_pairs.proofs.listener.remove.Goals as goal

pub returns : goal.returns
returns c = filter_same _ (λ (l : Listener). not (l.socket == c.args.socket)) _ (λ x b f' k. search rules) _ _ c.retain.ensures.filtered
