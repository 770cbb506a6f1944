use Rattle.std.proofs.Common.{rules}
use Rattle.subnet.proofs.Calls.Joining.{line_there}
use Rattle.subnet.proofs.lines.Lines.line_at.Goals as goal

pub returns-clause-there : goal.returns-clause-there
returns-clause-there c =
    line_there c.args.self.now c.self.inside.wires.items c.self.inside.by_imp.items c.self.inside.ports.items c.args.imp c.args.port c.index.result.now c.line.result (search rules) c.self.invariant (search rules) (search rules) c.line.ensures
