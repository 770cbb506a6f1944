use Rattle.std.proofs.Common.{◌≡◌}
use Rattle.host_services.specs.Turns.{lines_told}
use Rattle.host_services.proofs.desk.ServiceDesk.tell_lines.Given as goal

abbrev pub invariant-loop-line : goal.invariant-loop-line
invariant-loop-line l = lines_told l.self l.line-iterator.rest.items ≡ lines_told l.fn.self l.fn.lines.items
