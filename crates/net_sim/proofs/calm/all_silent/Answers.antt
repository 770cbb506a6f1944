use Rattle.net_sim.specs.Silent.{IsSilentAt}
use Rattle.net_sim.proofs.Hosts.Resting.{one_more}
use Rattle.net_sim.proofs.calm.all_silent.Goals as goal

pub loop-at-preserved : goal.loop-at-preserved
loop-at-preserved c = one_more (IsSilentAt c.args.seats.now) c.loop-at.at c.is_silent_at.result c.if-not-is_silent_at.false c.loop-at.invariant c.is_silent_at.ensures
