use Rattle.net_sim.proofs.Audits.Shown.{broken_none, broken_some}
use Rattle.net_sim.proofs.auditing.findings.broken_messages.Goals as goal

pub returns-in_err-place : goal.returns-in_err-place
returns-in_err-place c = rw c.from_residual.ensures (broken_none c.args.log.now c.in_err-place.ensures)

pub returns : goal.returns
returns c = broken_some c.args.log.now c.in_ok-place.place c.in_ok-place.ensures
