use Rattle.std.proofs.Common.{◌≡◌, ◌∙◌, OnOk, ap, false, rules, sym}
use Rattle.host_pairs.specs.Asked.{with_end, with_more_bits}
use Rattle.host_pairs.specs.Pair.{PairState, is_opening}
use Rattle.sockets.specs.Pairs.{pair_with}
use Rattle.sockets.specs.Peers.{StandsAt}
use Rattle.sockets.specs.declared.peer.Peer.{Peer}
use Rattle.sockets.proofs.PeerLemmas.{bits_stay, done_to, pair_at}
use Rattle.sockets.proofs.peers.Peers.add_bits.Goals as goal

pub returns-clause-added : goal.returns-clause-added
returns-clause-added c =
    let stands : StandsAt c.args.host c.args.self.now c.in-Ok.at = c.in-Ok.ensures in
    let pair : pair_with c.args.host c.args.self.now ≡ c.index-peer.result.now.pair = pair_at c.args.host c.args.self.now c.in-Ok.at c.index-peer.result.now stands (search rules) in
    let here : is_opening c.peer.inside.pair ≡ is_opening c.index-peer.result.now.pair = ap (λ (p : Peer). is_opening p.pair) c.peer.view_is in
    let other : is_opening (pair_with c.args.host c.args.self.now) ≡ false = ap (λ (q : PairState). is_opening q) pair ∙ sym here ∙ search rules in
    let is : OnOk c.change.result (c.change.ensures.0 ≡ with_end c.args.socket (with_more_bits c.args.bits.now) (pair_with c.args.host c.args.self.now)) = search rules in
    done_to c.args.host (with_end c.args.socket (with_more_bits c.args.bits.now)) c.change.result c.change.ensures.0 c.args.self.now c.change.new.self
    (bits_stay c.args.socket c.args.bits.now (pair_with c.args.host c.args.self.now) other) is c.change.ensures.2
