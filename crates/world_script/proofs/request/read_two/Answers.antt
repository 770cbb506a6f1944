use Rattle.world_script.proofs.Requests.{no_two, other_first, other_second}
use Rattle.world_script.proofs.request.read_two.Goals as goal

pub returns-in_err-one : goal.returns-in_err-one
returns-in_err-one c = rw c.from_residual.ensures (no_two c.args.first c.args.second c.args.words.now c.in_err-one.ensures)

pub returns-in_err-read_number : goal.returns-in_err-read_number
returns-in_err-read_number c = rw c.from_residual-in_err-read_number.ensures (other_first c.args.first c.args.second c.args.words.now c.in_ok-one.one.now c.in_ok-one.two.now c.ranges.first.fits c.in_ok-one.ensures.0 c.in_ok-one.ensures.1 c.in_err-read_number.ensures)

pub returns-in_err-read_number-2 : goal.returns-in_err-read_number-2
returns-in_err-read_number-2 c = rw c.from_residual-in_err-read_number-2.ensures (other_second c.args.first c.args.second c.args.words.now c.in_ok-one.one.now c.in_ok-one.two.now c.ranges.first.fits c.in_ok-one.ensures.0 c.in_ok-one.ensures.1 c.in_err-read_number-2.ensures)
