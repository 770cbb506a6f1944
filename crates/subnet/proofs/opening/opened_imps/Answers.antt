use Rattle.subnet.proofs.Calls.Opens.{site_read}
use Rattle.subnet.proofs.opening.opened_imps.Goals as goal

pub opened-requires : goal.opened-requires
opened-requires c = site_read c.args.sites.now c.loop-at.at c.loop-at-test.true c.requires.none c.requires.numbers c.requires.hosts
