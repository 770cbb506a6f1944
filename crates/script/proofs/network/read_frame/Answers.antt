use Rattle.script.proofs.Places.{no_line, no_way, no_place}
use Rattle.script.proofs.network.read_frame.Goals as goal

pub returns-in_err-plain_number : goal.returns-in_err-plain_number
returns-in_err-plain_number c = rw c.from_residual-in_err-plain_number.ensures (no_line c.args.words.now c.in_ok-line.line.now c.in_ok-line.direction.now c.in_ok-line.frame.now c.in_ok-line.ensures.0 c.in_ok-line.ensures.1 c.in_ok-line.ensures.2 c.in_err-plain_number.ensures)

pub returns-in_err-read_direction : goal.returns-in_err-read_direction
returns-in_err-read_direction c = rw c.from_residual-in_err-read_direction.ensures (no_way c.args.words.now c.in_ok-line.line.now c.in_ok-line.direction.now c.in_ok-line.frame.now c.in_ok-line.ensures.0 c.in_ok-line.ensures.1 c.in_ok-line.ensures.2 c.in_err-read_direction.ensures)

pub returns-in_err-plain_number-2 : goal.returns-in_err-plain_number-2
returns-in_err-plain_number-2 c = rw c.from_residual-in_err-plain_number-2.ensures (no_place c.args.words.now c.in_ok-line.line.now c.in_ok-line.direction.now c.in_ok-line.frame.now c.in_ok-line.ensures.0 c.in_ok-line.ensures.1 c.in_ok-line.ensures.2 c.in_err-plain_number-2.ensures)
