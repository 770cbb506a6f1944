use Rattle.std.proofs.Common.{rules}
use Rattle.subnet.proofs.Calls.Joining.{dropping_joined}
use Rattle.subnet.proofs.lines.Lines.lose.Goals as goal

pub invariant_of-self : goal.invariant_of-self
invariant_of-self c =
    dropping_joined c.self.inside.wires.items c.self.inside.by_imp.items c.self.inside.ports.items c.args.line c.args.direction c.args.place c.lose.new.self c.index_mut-wire.result.now c.self.invariant (search rules) (search rules) c.lose.ensures
