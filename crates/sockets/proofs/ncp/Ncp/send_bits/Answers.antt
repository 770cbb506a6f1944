use Rattle.std.proofs.Common.{length, refl}
use Rattle.host_pairs.specs.Asked as asked
use Rattle.sockets.specs.Requests as requests
use Rattle.sockets.specs.Pairs.{owner_of}
use Rattle.sockets.proofs.CallLemmas.{ended, wanted}
use Rattle.sockets.proofs.PeerLemmas.{owner_known}
use Rattle.sockets.proofs.ncp.Ncp.send_bits.Goals as goal

pub returns-clause-served : goal.returns-clause-served
unfolding requests.served requests.served_notices
returns-clause-served c = λ none. ended c.add_bits-done.result c.end.result c.add_bits-done.new.self c.end.new.self _ _ c.add_bits-done.ensures.state (c.in_ok-peer.ensures.checked.1 (asked.with_end c.args.socket (asked.with_more_bits c.args.bits.now))) c.end.ensures

pub returns-clause-memory : goal.returns-clause-memory
unfolding requests.served
returns-clause-memory c = λ none. wanted (length c.args.bits.now) c.add_bits-done.result c.end.result c.add_bits-done.new.self c.end.new.self c.args.self.now _ _ c.add_bits-done.ensures.memory (c.in_ok-peer.ensures.checked.1 (asked.with_end c.args.socket (asked.with_more_bits c.args.bits.now)))
    (owner_known c.args.self.now c.args.socket (λ e. asked.with_end c.args.socket (asked.with_more_bits c.args.bits.now)) c.in_ok-peer.ensures.order (owner_of c.args.socket c.args.self.now.peers) refl) c.end.ensures
