use Rattle.subnet.proofs.Common.{◌≡◌, ◌++◌, drop, ports_from}
use Rattle.subnet.proofs.lines.end_ports.Given as goal

-- the ports so far, and those of the lines that are left
abbrev pub invariant-loop-line : goal.invariant-loop-line
invariant-loop-line l = l.ports.items ++ ports_from l.line l.wires (drop l.line l.wires) ≡ ports_from 0 l.wires l.wires
