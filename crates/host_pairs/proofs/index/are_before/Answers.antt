use Rattle.std.proofs.Common.{rules}
use Rattle.host_pairs.specs.Inside.Index.{key_of}
use Rattle.host_pairs.proofs.OrderLemmas.{all_below}
use Rattle.host_pairs.proofs.index.are_before.Goals as goal

pub returns : goal.returns
returns c = all_below (key_of c.args.own c.args.foreign) c.index-ends-ends.result c.args.ends.now _ _ c.requires (search rules) (search rules) (search rules) (search rules)
