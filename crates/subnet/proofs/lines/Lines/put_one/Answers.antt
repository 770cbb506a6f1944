use Rattle.std.proofs.Common.{rules}
use Rattle.subnet.proofs.Calls.Joining.{put_joined}
use Rattle.subnet.proofs.lines.Lines.put_one.Goals as goal

pub invariant_of-self : goal.invariant_of-self
invariant_of-self c =
    put_joined c.self.inside.wires.items c.self.inside.by_imp.items c.self.inside.ports.items c.in-Some.line c.put.new.self c.index_mut-wire.result.now c.self.invariant (search rules) (search rules) c.put.ensures.a c.put.ensures.b
