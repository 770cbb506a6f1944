use Rattle.std.proofs.Common.{rules, ◌∙◌}
use Rattle.host_pairs.proofs.HeldLemmas.{each_held, with_all}
use Rattle.host_pairs.proofs.held.Ends.close_each.Goals as goal

pub invariant_of-self : goal.invariant_of-self
invariant_of-self c = each_held c.args.busy.now c.self.inside.gone _ _ _ _ _ c.self.inside.ends.items c.self.inside.ends.items _ c.self.invariant (with_all _ c.close.new.entries _ (search rules) ∙ search rules) (search rules)
