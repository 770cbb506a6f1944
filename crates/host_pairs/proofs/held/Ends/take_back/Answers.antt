use Rattle.std.proofs.Common.{rules, refl, sym}
use Rattle.host_pairs.specs.Commands.{returned}
use Rattle.host_pairs.specs.Entries.{receives_on}
use Rattle.host_pairs.proofs.EntryLemmas.{none_changed}
use Rattle.host_pairs.proofs.HeldLemmas.{all_held, changed_behind}
use Rattle.host_pairs.proofs.held.Ends.take_back.Goals as goal

pub invariant_of-self : goal.invariant_of-self
invariant_of-self c = all_held (receives_on c.args.link) (returned c.args.messages c.args.bits) c.self.inside.gone c.in-Some.at _ _ _ _ c.index_mut-end.result.now _ _ _
    (record { sockets = λ e. refl; closing = λ e h. h; ending = λ e h. h; sending = λ e h. h }) c.self.view_is (search rules) (search rules) c.self.invariant

pub returns-in-Some : goal.returns-in-Some
returns-in-Some c = changed_behind (receives_on c.args.link) (returned c.args.messages c.args.bits) c.self.inside.gone c.in-Some.at c.index_mut-end.result.now _ _ _ c.self.view_is (search rules) (search rules)

pub returns-in_default : goal.returns-in_default
returns-in_default c = sym (none_changed (receives_on c.args.link) (returned c.args.messages c.args.bits) _ (search rules))
