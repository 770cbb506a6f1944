use Rattle.std.proofs.Common.{◌≡◌, Some, ap, rules}
use Rattle.host_pairs.specs.Outgoing.{IsThere, parcel_of}
use Rattle.sockets.specs.Sending.{next_in}
use Rattle.sockets.specs.declared.peer.Peer.{Peer}
use Rattle.sockets.proofs.NextLemmas.{next_by_host}
use Rattle.sockets.proofs.peers.Peers.next.Goals as goal

pub returns-clause-next : goal.returns-clause-next
returns-clause-next c =
    let found : next_in c.args.self.now ≡ Some (c.in-Some.peer.now, parcel_of c.in-Some.peer.now.pair.entries c.in-Some.out) = search rules in
    let there : IsThere c.in-Some.peer.now.pair.entries c.in-Some.out = search rules in
    let same : c.peer.inside.host ≡ c.in-Some.peer.now.host = ap (λ (p : Peer). p.host) c.peer.view_is in
    rw same (next_by_host c.args.self.now c.in-Some.peer.now c.in-Some.out c.first.ensures.order found there).found

pub returns-clause-there : goal.returns-clause-there
returns-clause-there c =
    let found : next_in c.args.self.now ≡ Some (c.in-Some.peer.now, parcel_of c.in-Some.peer.now.pair.entries c.in-Some.out) = search rules in
    let there : IsThere c.in-Some.peer.now.pair.entries c.in-Some.out = search rules in
    let same : c.peer.inside.host ≡ c.in-Some.peer.now.host = ap (λ (p : Peer). p.host) c.peer.view_is in
    rw same (next_by_host c.args.self.now c.in-Some.peer.now c.in-Some.out c.first.ensures.order found there).there
