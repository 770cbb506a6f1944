use Rattle.std.proofs.Common.{◌≡◌, rules}
use Rattle.interface.specs.Host.{IsAddress}
use Rattle.sockets.specs.Pairs.{placed}
use Rattle.sockets.specs.Peers.{AreInOrder}
use Rattle.sockets.proofs.PeerLemmas.{order_placed}
use Rattle.sockets.proofs.peers.Peers.insert.Goals as goal

pub invariant_of-self-2 : goal.invariant_of-self-2
invariant_of-self-2 c =
    let address : IsAddress c.args.host = search rules in
    let order : AreInOrder c.args.self.now = search rules in
    let put : c.insert.new.self.items ≡ placed (record { host = c.args.host; pair = c.args.pair }) c.args.self.now = search rules in
    (order_placed (record { host = c.args.host; pair = c.args.pair }) c.args.self.now _ address order put, tt, search rules)
