use Rattle.std.proofs.Common.{rules}
use Rattle.host_pairs.specs.Entries.{is_at}
use Rattle.host_pairs.proofs.HeldLemmas.{none_placed}
use Rattle.host_pairs.proofs.held.first_among.Goals as goal

pub returns-in-Nowhere : goal.returns-in-Nowhere
returns-in-Nowhere c = none_placed (is_at c.args.own c.args.foreign) c.args.ends.now (search rules)
