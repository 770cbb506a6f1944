use Rattle.world_script.proofs.Requests.{no_three, other_front, other_back}
use Rattle.world_script.proofs.request.read_three.Goals as goal

pub returns-in_err-one : goal.returns-in_err-one
returns-in_err-one c = rw c.from_residual.ensures (no_three c.args.first c.args.second c.args.third c.args.words.now c.in_err-one.ensures)

pub returns-in_err-one-2 : goal.returns-in_err-one-2
returns-in_err-one-2 c = rw c.from_residual-in_err-one-2.ensures (other_front c.args.first c.args.second c.args.third c.args.words.now c.in_ok-one.one.now c.in_ok-one.rest.now c.ranges.first.fits c.in_ok-one.ensures.0 c.in_ok-one.ensures.1 c.in_err-one-2.ensures)

pub returns-in_err-two : goal.returns-in_err-two
returns-in_err-two c = rw c.from_residual-in_err-two.ensures (other_back c.args.first c.args.second c.args.third c.args.words.now c.in_ok-one.one.now c.in_ok-one.rest.now c.ranges.first.fits c.in_ok-one.ensures.0 c.in_ok-one.ensures.1 c.in_err-two.ensures)
