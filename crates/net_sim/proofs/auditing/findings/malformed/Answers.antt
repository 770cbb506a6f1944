use Rattle.std.proofs.Common.{◌≡◌, reverse, length, arith}
use Rattle.net_sim.proofs.Audits.Shown.{unstamped_none, unstamped_some}
use Rattle.net_sim.proofs.auditing.findings.malformed.Goals as goal

pub returns-in_err-place : goal.returns-in_err-place
returns-in_err-place c =
    let same : length c.args.lives.now ≡ length c.args.handed.now = omega arith in
    rw c.from_residual.ensures (unstamped_none (reverse c.args.log.now) c.args.lives.now c.args.handed.now same c.in_err-place.ensures)

pub returns : goal.returns
returns c =
    let same : length c.args.lives.now ≡ length c.args.handed.now = omega arith in
    unstamped_some (reverse c.args.log.now) c.args.lives.now c.args.handed.now c.in_ok-place.place same c.in_ok-place.ensures
