use Rattle.topology.proofs.Common.{items_view}
use Rattle.std.proofs.Common.{rules}
use Rattle.topology.proofs.Picked.{named_keeps}
use Rattle.topology.proofs.network.Topology.naming.Goals as goal

pub invariant_of-self : goal.invariant_of-self
invariant_of-self c =
    named_keeps (items_view c.args.imps.now) _ c.in_ok-self-inside.field-0.items c.self.invariant (search rules) (search rules)
