use Rattle.std.proofs.Common.{reverse}
use Rattle.net_sim.proofs.Audits.Shown.{unfed_none, unfed_some}
use Rattle.net_sim.proofs.auditing.findings.broken_streams.Goals as goal

pub returns-in_err-place : goal.returns-in_err-place
returns-in_err-place c = rw c.from_residual.ensures (unfed_none (reverse c.args.log.now) c.args.lives.now c.args.handed.now c.requires c.in_err-place.ensures)

pub returns : goal.returns
returns c = unfed_some (reverse c.args.log.now) c.args.lives.now c.args.handed.now c.in_ok-place.place c.with_match.result c.in_ok-place.ensures c.with_match.ensures
