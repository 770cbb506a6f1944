use Rattle.world_script.proofs.Requests.{host_front, no_receive_peer, no_host, no_receive_sockets, other_host}
use Rattle.world_script.proofs.request.read_open_receive.Goals as goal

pub returns-in_err-host : goal.returns-in_err-host
returns-in_err-host c = rw c.from_residual.ensures (no_receive_peer c.args.words.now (no_host c.args.words.now c.in_err-host.ensures))

pub returns-in_err-peer : goal.returns-in_err-peer
returns-in_err-peer c = rw c.from_residual-in_err-peer.ensures (no_receive_peer c.args.words.now (other_host c.args.words.now c.in_ok-host.host.now c.in_ok-host.rest.now c.in_ok-host.ensures.0 c.in_ok-host.ensures.1 c.in_err-peer.ensures))

pub returns-in_err-own : goal.returns-in_err-own
returns-in_err-own c = rw c.from_residual-in_err-own.ensures (no_receive_sockets c.args.words.now c.in_ok-host.rest.now c.in_ok-peer.peer (host_front c.args.words.now c.in_ok-host.host.now c.in_ok-host.rest.now c.in_ok-peer.peer c.in_ok-host.ensures.0 c.in_ok-peer.ensures.0) c.in_ok-peer.ensures.1 c.in_err-own.ensures)
