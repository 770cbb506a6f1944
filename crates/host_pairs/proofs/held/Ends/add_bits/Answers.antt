use Rattle.std.proofs.Common.{rules, sym}
use Rattle.host_pairs.specs.Asked.{with_more_bits}
use Rattle.host_pairs.specs.Entries.{is_mine_on}
use Rattle.host_pairs.specs.Inside.Held.{has_bits}
use Rattle.host_pairs.proofs.EntryLemmas.{none_changed}
use Rattle.host_pairs.proofs.HeldLemmas.{bits_held, changed_behind}
use Rattle.host_pairs.proofs.held.Ends.add_bits.Goals as goal

pub invariant_of-self : goal.invariant_of-self
invariant_of-self c = bits_held c.self.inside.gone c.in-Some.at _ _ _ _ _ c.index_mut-end.result.now _ _ c.self.invariant (search rules) (c.noted-waiting.ensures has_bits _ _ c.self.invariant.sending)

pub invariant_of-self-in_default-append : goal.invariant_of-self-in_default-append
invariant_of-self-in_default-append c = bits_held c.self.inside.gone c.in-Some.at _ _ _ _ _ c.index_mut-end.result.now _ _ c.self.invariant (search rules) (c.noted-waiting.ensures has_bits _ _ c.self.invariant.sending)

pub returns-in-Ok-clause-state : goal.returns-in-Ok-clause-state
returns-in-Ok-clause-state c = changed_behind (is_mine_on c.args.socket) (with_more_bits c.args.bits.now) c.self.inside.gone c.in-Some.at c.index_mut-end.result.now _ _ _ c.self.view_is (search rules) (search rules)

pub returns-in_default-clause-state : goal.returns-in_default-clause-state
returns-in_default-clause-state c = sym (none_changed (is_mine_on c.args.socket) (with_more_bits c.args.bits.now) _ (search rules))
