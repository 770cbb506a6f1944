use Rattle.std.proofs.Common.{rules}
use Rattle.host_pairs.specs.Entries.{is_at}
use Rattle.host_pairs.proofs.HeldLemmas.{none_there_placed, only_placed}
use Rattle.host_pairs.proofs.held.place_there.Goals as goal

pub returns-then-is_at : goal.returns-then-is_at
returns-then-is_at c = only_placed (is_at c.args.own c.args.foreign) c.args.at c.index-ends-at.result c.args.ends.now c.requires.only c.requires.there (search rules)

pub returns-else-is_at : goal.returns-else-is_at
returns-else-is_at c = none_there_placed (is_at c.args.own c.args.foreign) c.args.at c.index-ends-at.result c.args.ends.now c.requires.only (search rules)
