use Rattle.std.proofs.Common.{◌≡◌, Some, false, rules}
use Rattle.sockets.specs.Memory.{queued_by_closing}
use Rattle.sockets.specs.Others.{owner_host}
use Rattle.host_pairs.specs.Desk.{listens_on}
use Rattle.sockets.specs.Pairs.{owner_of}
use Rattle.host_pairs.specs.Asked as asked
use Rattle.sockets.specs.Requests as requests
use Rattle.sockets.proofs.CallLemmas.{ended, closed_found, closed_known, wanted, wanted_closing}
use Rattle.sockets.proofs.ncp.Ncp.close.Goals as goal

pub returns-clause-served : goal.returns-clause-served
unfolding requests.served requests.served_notices
returns-clause-served c =
    let silent : listens_on c.args.socket c.args.self.now.listening ≡ false = search rules in
    λ none. ended c.close_end-done.result c.end.result c.close_end-done.new.self c.end.new.self _ _ c.close_end-done.ensures.state
    (closed_found c.args.self.now c.args.socket c.in_ok-peer.peer silent (c.in_ok-peer.ensures.checked.1 (asked.closed_end c.args.socket))) c.end.ensures

pub returns-clause-memory : goal.returns-clause-memory
unfolding requests.served
returns-clause-memory c =
    let silent : listens_on c.args.socket c.args.self.now.listening ≡ false = search rules in
    λ none. wanted_closing c.args.socket c.in_ok-peer.peer c.args.self.now (owner_host (owner_of c.args.socket c.args.self.now.peers)) c.end.result c.in_ok-peer.ensures.host
    (wanted (queued_by_closing c.args.self.now c.args.socket (Some c.in_ok-peer.peer)) c.close_end-done.result c.end.result c.close_end-done.new.self c.end.new.self c.args.self.now _ _ c.close_end-done.ensures.memory
    (closed_found c.args.self.now c.args.socket c.in_ok-peer.peer silent (c.in_ok-peer.ensures.checked.1 (asked.closed_end c.args.socket)))
    (closed_known c.args.self.now c.args.socket c.in_ok-peer.ensures.order silent) c.end.ensures)
