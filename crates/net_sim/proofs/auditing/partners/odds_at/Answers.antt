use Rattle.std.proofs.Common.{reverse}
use Rattle.net_sim.proofs.Audits.Partners.{partners_more, two_found}
use Rattle.net_sim.proofs.auditing.partners.odds_at.Goals as goal

pub returns-in-Some : goal.returns-in-Some
returns-in-Some c =
    two_found (reverse c.args.log.now) c.args.lives.now c.loop-second.second c.in-Some.first c.index-lives-second.result c.loop-second-test.true c.index-lives-second.is c.loop-second.invariant c.in-Some.ensures

pub loop-second-preserved : goal.loop-second-preserved
loop-second-preserved c =
    partners_more (reverse c.args.log.now) c.args.lives.now c.loop-second.second c.index-lives-second.result c.loop-second-test.true c.index-lives-second.is c.loop-second.invariant c.in_default.ensures
