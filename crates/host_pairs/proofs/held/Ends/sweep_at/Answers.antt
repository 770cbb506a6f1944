use Rattle.std.proofs.Common.{rules, sym, ◌∙◌}
use Rattle.host_pairs.specs.Entries.{is_over}
use Rattle.host_pairs.proofs.HeldLemmas.{none_waiting, swept_none, swept_place, with_over}
use Rattle.host_pairs.proofs.held.Ends.sweep_at.Goals as goal

pub invariant_of-self : goal.invariant_of-self
invariant_of-self c = with_over _ _ _ _ _ _ _ c.self.invariant (rw c.self.view_is (none_waiting is_over c.self.inside.gone c.args.at c.index-end.result.now _ _ c.self.view_is (search rules) c.requires (search rules)))

pub returns-then-is_over : goal.returns-then-is_over
returns-then-is_over c = c.remove.ensures ∙ swept_place c.self.inside.gone c.args.at c.index-end.result.now _ _ c.self.view_is (search rules) c.requires (search rules) (search rules)

pub returns-else-is_over : goal.returns-else-is_over
returns-else-is_over c = c.self.view_is ∙ sym (swept_none _ (none_waiting is_over c.self.inside.gone c.args.at c.index-end.result.now _ _ c.self.view_is (search rules) c.requires (search rules)))
