use Rattle.std.proofs.Common.{reverse}
use Rattle.net_sim.proofs.Audits.Shown.{excess_none, excess_some}
use Rattle.net_sim.proofs.auditing.findings.broken_grants.Goals as goal

pub returns-in_err-place : goal.returns-in_err-place
returns-in_err-place c = rw c.from_residual.ensures (excess_none (reverse c.args.log.now) c.args.lives.now c.in_err-place.ensures)

pub returns : goal.returns
returns c = excess_some (reverse c.args.log.now) c.args.lives.now c.in_ok-place.place c.with_match.result c.in_ok-place.ensures c.with_match.ensures
