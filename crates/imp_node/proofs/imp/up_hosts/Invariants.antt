use Rattle.imp_node.proofs.Common.{◌≡◌, replicate, up_host}
use Rattle.imp_node.proofs.imp.up_hosts.Given as goal

abbrev pub invariant-loop : goal.invariant-loop
invariant-loop l = l.hosts.items ≡ replicate l.counter up_host
