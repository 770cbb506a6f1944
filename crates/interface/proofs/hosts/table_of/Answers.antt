use Rattle.std.proofs.Common.{false, arith}
use Rattle.std.proofs.lemmas.List.{get_or-replicate}
use Rattle.interface.specs.Host.{address_octet}
use Rattle.interface.proofs.hosts.table_of.Goals as goal

pub loop-host-init : goal.loop-host-init
loop-host-init c h a = get_or-replicate 256 (address_octet h) false false (omega (arith, a.imp_to, a.host_to))
