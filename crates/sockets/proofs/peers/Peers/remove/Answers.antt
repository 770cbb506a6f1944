use Rattle.std.proofs.Common.{◌≡◌, rules}
use Rattle.sockets.specs.Pairs.{without_peer}
use Rattle.sockets.specs.Peers.{AreInOrder}
use Rattle.sockets.proofs.PeerLemmas.{order_removed}
use Rattle.sockets.proofs.peers.Peers.remove.Goals as goal

pub invariant_of-self : goal.invariant_of-self
invariant_of-self c =
    let order : AreInOrder c.args.self.now = search rules in
    let gone : c.remove.new.self.items ≡ without_peer c.args.host c.args.self.now = search rules in
    (order_removed c.args.host c.args.self.now _ order gone, tt, search rules)
