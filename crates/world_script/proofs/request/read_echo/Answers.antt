use Rattle.world_script.proofs.Requests.{host_front, no_echo, no_host, no_octet, other_host}
use Rattle.world_script.proofs.request.read_echo.Goals as goal

pub returns-in_err-host : goal.returns-in_err-host
returns-in_err-host c = rw c.from_residual.ensures (no_echo c.args.words.now (no_host c.args.words.now c.in_err-host.ensures))

pub returns-in_err-peer : goal.returns-in_err-peer
returns-in_err-peer c = rw c.from_residual-in_err-peer.ensures (no_echo c.args.words.now (other_host c.args.words.now c.in_ok-host.host.now c.in_ok-host.rest.now c.in_ok-host.ensures.0 c.in_ok-host.ensures.1 c.in_err-peer.ensures))

pub returns-in_err-octet : goal.returns-in_err-octet
returns-in_err-octet c = rw c.from_residual-in_err-octet.ensures (no_octet c.args.words.now c.in_ok-host.rest.now c.in_ok-peer.peer (host_front c.args.words.now c.in_ok-host.host.now c.in_ok-host.rest.now c.in_ok-peer.peer c.in_ok-host.ensures.0 c.in_ok-peer.ensures.0) c.in_ok-peer.ensures.1 c.in_err-octet.ensures)
