use Rattle.world_script.proofs.Requests.{no_grant}
use Rattle.world_script.proofs.request.read_grant.Goals as goal

pub returns-in_err-socket : goal.returns-in_err-socket
returns-in_err-socket c = rw c.from_residual.ensures (no_grant c.args.words.now c.in_err-socket.ensures)
