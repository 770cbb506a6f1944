use Rattle.world_script.proofs.Lines.{no_user, no_user_host, no_user_peer}
use Rattle.world_script.proofs.Requests.{host_front, no_host, other_host}
use Rattle.world_script.proofs.services.read_user.Goals as goal

pub returns-in_err-host : goal.returns-in_err-host
returns-in_err-host c = rw c.from_residual.ensures (no_user_host c.args.words.now (no_host c.args.words.now c.in_err-host.ensures))

pub returns-in_err-host-2 : goal.returns-in_err-host-2
returns-in_err-host-2 c = rw c.from_residual-in_err-host-2.ensures (no_user_host c.args.words.now (other_host c.args.words.now c.in_ok-host.host.now c.in_ok-host.rest.now c.in_ok-host.ensures.0 c.in_ok-host.ensures.1 c.in_err-host-2.ensures))

pub returns-in_err-peer : goal.returns-in_err-peer
returns-in_err-peer c = rw c.from_residual-in_err-peer.ensures (no_user_peer c.args.words.now c.in_ok-host.rest.now c.in_ok-host-2.host (host_front c.args.words.now c.in_ok-host.host.now c.in_ok-host.rest.now c.in_ok-host-2.host c.in_ok-host.ensures.0 c.in_ok-host-2.ensures.0) c.in_ok-host-2.ensures.1
    (no_host c.in_ok-host.rest.now c.in_err-peer.ensures))

pub returns-in_err-peer-2 : goal.returns-in_err-peer-2
returns-in_err-peer-2 c = rw c.from_residual-in_err-peer-2.ensures (no_user_peer c.args.words.now c.in_ok-host.rest.now c.in_ok-host-2.host (host_front c.args.words.now c.in_ok-host.host.now c.in_ok-host.rest.now c.in_ok-host-2.host c.in_ok-host.ensures.0 c.in_ok-host-2.ensures.0) c.in_ok-host-2.ensures.1
    (other_host c.in_ok-host.rest.now c.in_ok-peer.peer.now c.in_ok-peer.sockets.now c.in_ok-peer.ensures.0 c.in_ok-peer.ensures.1 c.in_err-peer-2.ensures))

pub returns-in_err-listen : goal.returns-in_err-listen
returns-in_err-listen c = rw c.from_residual-in_err-listen.ensures (no_user c.args.words.now c.in_ok-host.rest.now c.in_ok-peer.sockets.now c.in_ok-host-2.host c.in_ok-peer-2.peer
    (host_front c.args.words.now c.in_ok-host.host.now c.in_ok-host.rest.now c.in_ok-host-2.host c.in_ok-host.ensures.0 c.in_ok-host-2.ensures.0) c.in_ok-host-2.ensures.1
    (host_front c.in_ok-host.rest.now c.in_ok-peer.peer.now c.in_ok-peer.sockets.now c.in_ok-peer-2.peer c.in_ok-peer.ensures.0 c.in_ok-peer-2.ensures.0) c.in_ok-peer-2.ensures.1 c.in_err-listen.ensures)
