use Rattle.std.proofs.Common.{rules}
use Rattle.net_sim.proofs.Books.InOrder.{crossed_so}
use Rattle.net_sim.proofs.notes.Notes.cross.Goals as goal

pub returns-clause-done : goal.returns-clause-done
returns-clause-done c =
    crossed_so c.args.news.now c.args.self.now c.grow.new.self c.self.inside.notices.items c.self.inside.contacts.items c.self.inside.reports.items c.cross_only.new.self
    (search rules) (search rules) (search rules) (search rules) (search rules)
