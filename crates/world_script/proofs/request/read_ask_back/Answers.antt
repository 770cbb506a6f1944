use Rattle.world_script.proofs.Requests.{no_ask_back}
use Rattle.world_script.proofs.request.read_ask_back.Goals as goal

pub returns-in_err-socket : goal.returns-in_err-socket
returns-in_err-socket c = rw c.from_residual.ensures (no_ask_back c.args.words.now c.in_err-socket.ensures)
