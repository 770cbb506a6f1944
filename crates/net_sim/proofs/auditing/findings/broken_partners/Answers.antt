use Rattle.std.proofs.Common.{reverse}
use Rattle.net_sim.proofs.Audits.Partners.{partners_decide}
use Rattle.net_sim.proofs.Audits.Shown.{two_some}
use Rattle.net_sim.proofs.auditing.findings.broken_partners.Goals as goal

pub returns-in_err-first : goal.returns-in_err-first
returns-in_err-first c = rw c.from_residual.ensures ((partners_decide (reverse c.args.log.now) c.args.lives.now c.requires).0 c.in_err-first.ensures)

pub returns : goal.returns
returns c = two_some (reverse c.args.log.now) c.args.lives.now (c.in_ok-first.first, c.in_ok-first.second) c.requires c.in_ok-first.ensures
