use Rattle.std.proofs.Common.{rules, not, ◌==◌, ℕ}
use Rattle.std.proofs.lemmas.Fn.{filter_same}
use Rattle.host_pairs.proofs.turn.free.Goals as goal

pub returns : goal.returns
returns c = filter_same _ (λ (l : ℕ). not (l == c.args.link)) _ (λ x b f' k. search rules) _ _ c.retain.ensures.filtered
