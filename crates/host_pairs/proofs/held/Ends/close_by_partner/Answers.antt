use Rattle.std.proofs.Common.{rules, refl, sym, ◌+◌}
use Rattle.host_pairs.specs.Entries.{is_at, is_over, closed_by_partner}
use Rattle.host_pairs.specs.Inside.Held.{waits, has_bits}
use Rattle.host_pairs.proofs.EntryLemmas.{none_changed}
use Rattle.host_pairs.proofs.HeldLemmas.{changed_behind, index_held, kept_held, one_held, within_set}
use Rattle.host_pairs.proofs.held.Ends.close_by_partner.Goals as goal

pub invariant_of-self : goal.invariant_of-self
invariant_of-self c = record {
  within = within_set c.self.inside.gone (c.self.inside.gone + c.in-Some.at) _ c.self.inside.ends.items c.self.invariant.within;
  indexed = index_held _ (is_at c.args.own c.args.foreign) (closed_by_partner) c.self.inside.gone c.in-Some.at c.index_mut-end.result.now _ _ _ c.self.view_is (search rules) (search rules) (λ e. refl) c.self.invariant.indexed;
  closing = one_held waits _ c.self.inside.gone c.in-Some.at _ c.self.inside.ends.items (c.noted-due.ensures waits _ _ c.self.invariant.closing);
  ending = one_held is_over _ c.self.inside.gone c.in-Some.at _ c.self.inside.ends.items (c.noted-over.ensures is_over _ _ c.self.invariant.ending);
  sending = kept_held has_bits _ (is_at c.args.own c.args.foreign) (closed_by_partner) c.self.inside.gone c.in-Some.at c.index_mut-end.result.now _ _ _ c.self.view_is (search rules) (search rules) (λ e h. refl) c.self.invariant.sending;
}

pub returns-in-Some : goal.returns-in-Some
returns-in-Some c = changed_behind (is_at c.args.own c.args.foreign) (closed_by_partner) c.self.inside.gone c.in-Some.at c.index_mut-end.result.now _ _ _ c.self.view_is (search rules) (search rules)

pub returns-in_default : goal.returns-in_default
returns-in_default c = sym (none_changed (is_at c.args.own c.args.foreign) (closed_by_partner) _ (search rules))
