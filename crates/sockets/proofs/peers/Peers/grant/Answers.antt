use Rattle.std.proofs.Common.{◌≡◌, OnOk, rules}
use Rattle.host_pairs.specs.Asked.{commanded, with_end}
use Rattle.host_pairs.specs.Commands.{granted}
use Rattle.host_pairs.specs.Pair.{PairState}
use Rattle.sockets.specs.Pairs.{pair_with}
use Rattle.sockets.proofs.PeerLemmas.{done_to, grant_stays}
use Rattle.sockets.proofs.peers.Peers.grant.Goals as goal

pub returns-in-Ok : goal.returns-in-Ok
returns-in-Ok c =
    let is : OnOk c.change.result (c.change.ensures.0 ≡ commanded c.args.command (with_end c.args.socket (granted c.args.messages c.args.bits) (pair_with c.args.host c.args.self.now))) = search rules in
    done_to c.args.host (λ (q : PairState). commanded c.args.command (with_end c.args.socket (granted c.args.messages c.args.bits) q)) c.change.result c.change.ensures.0 c.args.self.now c.change.new.self
    (grant_stays c.args.socket c.args.messages c.args.bits c.args.command (pair_with c.args.host c.args.self.now)) is c.change.ensures.2
