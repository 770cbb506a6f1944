use Rattle.std.proofs.Common.{◌≡◌, false, slice_index_or, take}
use Rattle.interface.specs.Host.{Host, IsAddress, address_octet, is_host}
use Rattle.interface.proofs.hosts.table_of.Given as goal

-- the table of the hosts so far
abbrev pub invariant-loop-host : goal.invariant-loop-host
invariant-loop-host l = (h : Host) → IsAddress h → slice_index_or l.named (address_octet h) false ≡ is_host (take l.host-index l.hosts) h
