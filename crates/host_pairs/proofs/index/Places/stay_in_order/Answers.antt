use Rattle.std.proofs.Common.{rules}
use Rattle.host_pairs.proofs.OrderLemmas.{only_if, stay_if}
use Rattle.host_pairs.proofs.index.Places.stay_in_order.Goals as goal

pub returns-in-InOrder : goal.returns-in-InOrder
returns-in-InOrder c = stay_if c.are_before.result c.args.end.now c.args.ends.now (search rules) c.are_before.ensures

pub returns-in-Unknown : goal.returns-in-Unknown
returns-in-Unknown c = only_if c.is_empty.result c.args.end.now c.args.ends.now (search rules)
