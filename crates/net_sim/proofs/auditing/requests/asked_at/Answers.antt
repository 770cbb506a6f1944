use Rattle.std.proofs.Common.{rules, arith}
use Rattle.net_sim.proofs.Audits.Requests.{before_inside}
use Rattle.net_sim.proofs.auditing.requests.asked_at.Goals as goal

pub returns-then-life-log : goal.returns-then-life-log
returns-then-life-log c = rw (before_inside c.args.log.now c.args.life.now.partner_stamp (omega arith)) (search rules)
