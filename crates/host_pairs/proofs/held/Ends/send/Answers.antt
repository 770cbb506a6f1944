use Rattle.std.proofs.Common.{rules}
use Rattle.std.proofs.lemmas.Result.{on_ok_weaker}
use Rattle.host_pairs.specs.Entries.{new_entry}
use Rattle.host_pairs.specs.Parcels.{bits_gone}
use Rattle.host_pairs.proofs.HeldLemmas.{sent_or_same, set_view}
use Rattle.host_pairs.proofs.held.Ends.send.Goals as goal

pub invariant_of-self : goal.invariant_of-self
invariant_of-self c = sent_or_same c.send.result c.self.inside.gone c.args.at c.args.bits _ _ _ _ c.index_mut-end.result.now c.send.new.self c.self.inside.ends.items c.send.ensures.gone c.send.ensures.kept c.self.invariant (search rules)

pub returns-clause-gone : goal.returns-clause-gone
returns-clause-gone c =
    on_ok_weaker c.send.result (λ gone. set_view c.self.inside.gone c.args.at c.index_mut-end.result.now c.send.new.self (bits_gone c.args.bits) c.args.self.now c.self.inside.ends.items (new_entry 0 0)
    c.self.view_is c.requires (search rules) gone) c.send.ensures.gone
