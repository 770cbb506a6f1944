use Rattle.std.proofs.Common.{◌≡◌, OnOk, rules}
use Rattle.host_pairs.specs.Asked.{commanded}
use Rattle.sockets.specs.Pairs.{pair_with}
use Rattle.sockets.proofs.PeerLemmas.{done_to, command_stays}
use Rattle.sockets.proofs.peers.Peers.command.Goals as goal

pub returns-in-Ok : goal.returns-in-Ok
returns-in-Ok c =
    let is : OnOk c.change.result (c.change.ensures.0 ≡ commanded c.args.command (pair_with c.args.host c.args.self.now)) = search rules in
    done_to c.args.host (commanded c.args.command) c.change.result c.change.ensures.0 c.args.self.now c.change.new.self (command_stays c.args.command (pair_with c.args.host c.args.self.now)) is c.change.ensures.2
