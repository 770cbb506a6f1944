use Rattle.subnet.proofs.Common.{rules, ports_from}
use Rattle.subnet.proofs.Calls.Joining.{ports_pushed}
use Rattle.subnet.proofs.lines.end_ports.Goals as goal

pub loop-line-preserved : goal.loop-line-preserved
loop-line-preserved c =
    ports_pushed c.args.wires.now c.loop-line.ports.items c.push.new.self.items (ports_from 0 c.args.wires.now c.args.wires.now) c.loop-line.line c.index-wires-line.result c.ports_at.result c.loop-line-test.true c.index-wires-line.is c.ports_at.ensures (search rules) c.loop-line.invariant
