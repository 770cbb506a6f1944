use Rattle.std.proofs.Common.{◌≡◌, OnOk, rules}
use Rattle.host_pairs.specs.Asked.{requested}
use Rattle.sockets.specs.Pairs.{pair_with}
use Rattle.sockets.proofs.PeerLemmas.{done_to, request_stays}
use Rattle.sockets.proofs.peers.Peers.request.Goals as goal

pub returns : goal.returns
returns c =
    let is : OnOk c.change.result (c.change.ensures.0 ≡ requested c.args.entry c.args.command (pair_with c.args.host c.args.self.now)) = search rules in
    done_to c.args.host (requested c.args.entry c.args.command) c.change.result c.change.ensures.0 c.args.self.now c.change.new.self (request_stays c.args.entry c.args.command (pair_with c.args.host c.args.self.now)) is c.change.ensures.2
