use Rattle.world_script.proofs.Requests.{no_number, other_number}
use Rattle.world_script.proofs.request.cut_number.Goals as goal

pub returns-in_err-number : goal.returns-in_err-number
returns-in_err-number c = rw c.from_residual.ensures (no_number c.args.words.now c.in_err-number.ensures)

pub returns-in_err-plain_number : goal.returns-in_err-plain_number
returns-in_err-plain_number c = rw c.from_residual-in_err-plain_number.ensures (other_number c.args.words.now c.in_ok-number.number.now c.in_ok-number.rest.now c.in_ok-number.ensures.0 c.in_ok-number.ensures.1 c.in_err-plain_number.ensures)
