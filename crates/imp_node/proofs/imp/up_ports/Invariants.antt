use Rattle.imp_node.proofs.Common.{◌≡◌, replicate, up_port}
use Rattle.imp_node.proofs.imp.up_ports.Given as goal

abbrev pub invariant-loop : goal.invariant-loop
invariant-loop l = l.ports.items ≡ replicate l.counter up_port
