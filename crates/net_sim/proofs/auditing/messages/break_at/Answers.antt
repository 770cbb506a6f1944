use Rattle.std.proofs.Common.{sym, ◌∙◌}
use Rattle.net_sim.proofs.Audits.Messages.{crossing_stops}
use Rattle.net_sim.proofs.auditing.messages.break_at.Goals as goal

pub returns-then-not-crossing_holds : goal.returns-then-not-crossing_holds
returns-then-not-crossing_holds c =
    crossing_stops c.args.log.now c.loop-at.at c.index-log-at.result c.loop-at-test.true c.index-log-at.is (sym c.crossing_holds.ensures ∙ c.if-not-crossing_holds.true) c.loop-at.invariant
