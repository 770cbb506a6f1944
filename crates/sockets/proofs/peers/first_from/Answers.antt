use Rattle.std.proofs.Common.{rules, nat_lt}
use Rattle.std.proofs.lemmas.List.Sorted.{IsPartitionPoint-from_clause}
use Rattle.interface.specs.Host.{address_octet}
use Rattle.sockets.specs.declared.peer.Peer.{Peer}
use Rattle.sockets.proofs.PeerLemmas.{partitioned}
use Rattle.sockets.proofs.peers.first_from.Goals as goal

pub returns-clause-parts : goal.returns-clause-parts
returns-clause-parts c =
    IsPartitionPoint-from_clause (λ (p : Peer). nat_lt (address_octet p.host) (address_octet c.args.host)) _ _ c.partition_point.ensures.partitioned (partitioned c.args.host 0 _ c.requires) (λ a r f' k. search rules)
