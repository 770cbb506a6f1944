use Rattle.std.proofs.Common.{◌≡◌, List, rules, slice_index_or, slice_set, subst}
use Rattle.interface.specs.Host.{IsAddress}
use Rattle.sockets.specs.Pairs.{with_pair}
use Rattle.sockets.specs.Peers.{StandsAt}
use Rattle.sockets.specs.declared.peer.Peer.{Peer}
use Rattle.sockets.proofs.PeerLemmas.{again_swapped, order_placed, set_at}
use Rattle.sockets.proofs.peers.Peers.take.Goals as goal

pub invariant_of-self-2 : goal.invariant_of-self-2
invariant_of-self-2 c =
    let ps : List Peer = c.self.inside.peers.items in
    let p : Peer = c.take-pair.new.self in
    let address : IsAddress c.args.host = search rules in
    let stands : StandsAt c.args.host ps c.in-Ok.at = c.in-Ok.ensures in
    let same : p.host ≡ (slice_index_or ps c.in-Ok.at p).host = search rules in
    (order_placed (record { host = c.args.host; pair = p.pair }) ps _ address c.self.invariant.0 (set_at c.args.host ps c.in-Ok.at p stands same), tt, search rules)

pub returns-clause-again : goal.returns-clause-again
returns-clause-again c = λ pair.
    let ps : List Peer = c.self.inside.peers.items in
    let p : Peer = c.take-pair.new.self in
    let stands : StandsAt c.args.host ps c.in-Ok.at = c.in-Ok.ensures in
    let same : p.host ≡ (slice_index_or ps c.in-Ok.at p).host = search rules in
    subst (λ (qs : List Peer). with_pair c.args.host pair (slice_set ps c.in-Ok.at p) ≡ with_pair c.args.host pair qs) c.self.view_is
    (again_swapped c.args.host p.pair pair ps _ (set_at c.args.host ps c.in-Ok.at p stands same))
