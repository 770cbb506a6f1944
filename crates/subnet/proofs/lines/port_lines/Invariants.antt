use Rattle.subnet.proofs.Common.{◌≡◌, ◌++◌, drop, lines_from}
use Rattle.subnet.proofs.lines.port_lines.Given as goal

-- the lines so far, and those of the lines that are left
abbrev pub invariant-loop-line : goal.invariant-loop-line
invariant-loop-line l = l.lines.items ++ lines_from l.line (drop l.line l.wires) l.imp ≡ lines_from 0 l.wires l.imp
