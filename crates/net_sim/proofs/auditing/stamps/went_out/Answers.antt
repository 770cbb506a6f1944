use Rattle.net_sim.proofs.Audits.Stamps.{out_at, out_past}
use Rattle.net_sim.proofs.auditing.stamps.went_out.Goals as goal

pub returns-then-place-log : goal.returns-then-place-log
returns-then-place-log c = out_past c.args.flow c.args.log.now c.args.place c.if-place-log.true

pub returns : goal.returns
returns c = out_at c.args.flow c.args.log.now c.args.place c.index-log-place.result c.is_out.result c.if-place-log.false c.index-log-place.is c.is_out.ensures
