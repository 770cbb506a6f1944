use Rattle.net_sim.proofs.Audits.Stamps.{in_at, in_past}
use Rattle.net_sim.proofs.auditing.stamps.came_in.Goals as goal

pub returns-then-place-log : goal.returns-then-place-log
returns-then-place-log c = in_past c.args.flow c.args.log.now c.args.place c.if-place-log.true

pub returns : goal.returns
returns c = in_at c.args.flow c.args.log.now c.args.place c.index-log-place.result c.is_in.result c.if-place-log.false c.index-log-place.is c.is_in.ensures
