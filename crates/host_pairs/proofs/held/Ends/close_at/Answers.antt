use Rattle.std.proofs.Common.{rules, refl, sym, ap, ◌∙◌}
use Rattle.host_pairs.specs.Entries.{must_close}
use Rattle.host_pairs.specs.Inside.Held.{waits}
use Rattle.host_pairs.specs.declared.entry.Entry.{Entry}
use Rattle.host_pairs.proofs.HeldLemmas.{closed_held, closes, closed_none, closed_view, none_waiting, same_read, stays_same, with_due}
use Rattle.host_pairs.proofs.held.Ends.close_at.Goals as goal

pub invariant_of-self : goal.invariant_of-self
invariant_of-self c = with_due _ _ _ _ _ _ _ c.self.invariant (rw c.self.view_is (none_waiting waits c.self.inside.gone c.args.at c.index-end.result.now _ _ c.self.view_is (search rules) c.requires (search rules)))

pub returns-then-ne : goal.returns-then-ne
returns-then-ne c = c.self.view_is ∙ sym (closed_none c.args.busy.now _ (none_waiting waits c.self.inside.gone c.args.at c.index-end.result.now _ _ c.self.view_is (search rules) c.requires (search rules)))

pub invariant_of-self-then-must_close : goal.invariant_of-self-then-must_close
invariant_of-self-then-must_close c = closed_held c.args.busy.now c.self.inside.gone c.args.at _ _ _ _ c.index_mut-end.result.now _ _ _ c.self.invariant c.self.view_is (search rules) c.requires (search rules) (sym (closes c.args.busy.now c.index_mut-end.result.now (ap (λ (e : Entry). must_close c.args.busy.now e) (same_read c.self.inside.gone c.args.at c.index-end.result.now c.index_mut-end.result.now _ _ c.self.view_is (search rules) (search rules) (search rules)) ∙ search rules))) refl

pub returns-then-must_close : goal.returns-then-must_close
returns-then-must_close c = closed_view c.args.busy.now c.self.inside.gone c.args.at c.index_mut-end.result.now _ _ _ c.self.view_is (search rules) c.requires (search rules) (sym (closes c.args.busy.now c.index_mut-end.result.now (ap (λ (e : Entry). must_close c.args.busy.now e) (same_read c.self.inside.gone c.args.at c.index-end.result.now c.index_mut-end.result.now _ _ c.self.view_is (search rules) (search rules) (search rules)) ∙ search rules)))

pub returns-else-must_close : goal.returns-else-must_close
returns-else-must_close c = stays_same c.args.busy.now c.self.inside.gone c.args.at c.index-end.result.now _ _ c.self.view_is (search rules) c.requires (search rules)
