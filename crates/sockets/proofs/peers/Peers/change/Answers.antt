use Rattle.std.proofs.Common.{◌≡◌, List, rules, slice_index_or, slice_set, subst, sym}
use Rattle.std.specs.Fn.{FnOnceReturnsAtMut}
use Rattle.interface.specs.Host.{IsAddress}
use Rattle.host_pairs.specs.Pair.{PairState}
use Rattle.sockets.specs.Pairs.{pair_with}
use Rattle.sockets.specs.Peers.{PairChanges, StandsAt}
use Rattle.sockets.specs.declared.peer.Peer.{Peer}
use Rattle.sockets.proofs.PeerLemmas.{order_placed, pair_at, set_at}
use Rattle.sockets.proofs.peers.Peers.change.Goals as goal

pub invariant_of-self : goal.invariant_of-self
invariant_of-self g c =
    let ps : List Peer = c.self.inside.peers.items in
    let p : Peer = c.change-done.new.self in
    let address : IsAddress c.args.host = search rules in
    let stands : StandsAt c.args.host ps c.args.at = subst (λ (qs : List Peer). StandsAt c.args.host qs c.args.at) (sym c.self.view_is) c.requires.there in
    let same : p.host ≡ (slice_index_or ps c.args.at p).host = search rules in
    (order_placed (record { host = c.args.host; pair = p.pair }) ps _ address c.self.invariant.0 (set_at c.args.host ps c.args.at p stands same), tt, search rules)

pub returns : goal.returns
returns g c =
    let ps : List Peer = c.self.inside.peers.items in
    let p : Peer = c.change-done.new.self in
    let stands : StandsAt c.args.host ps c.args.at = subst (λ (qs : List Peer). StandsAt c.args.host qs c.args.at) (sym c.self.view_is) c.requires.there in
    let same : p.host ≡ (slice_index_or ps c.args.at p).host = search rules in
    let pair : pair_with c.args.host ps ≡ c.index_mut.result.now.pair = pair_at c.args.host ps c.args.at c.index_mut.result.now stands (search rules) in
    subst (λ (qs : List Peer). PairChanges c.args.host (λ (q r : PairState). FnOnceReturnsAtMut g.F.FnOnce c.args.change q c.change-done.result r) qs (slice_set ps c.args.at p)) c.self.view_is
    (p.pair, subst (λ (q : PairState). FnOnceReturnsAtMut g.F.FnOnce c.args.change q c.change-done.result p.pair) (sym pair) c.change-done.ensures.pair, set_at c.args.host ps c.args.at p stands same)
