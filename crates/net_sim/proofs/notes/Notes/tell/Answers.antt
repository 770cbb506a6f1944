use Rattle.std.proofs.Common.{rules}
use Rattle.net_sim.proofs.Books.InOrder.{told_so}
use Rattle.net_sim.proofs.notes.Notes.tell.Goals as goal

pub returns-clause-done : goal.returns-clause-done
returns-clause-done c =
    told_so c.args.host c.args.news.now c.args.notices.items c.args.self.now c.grow.new.self c.in_ok-place.place c.len-told.result c.add_told.new.all.items c.deref.result.now
    c.self.inside.contacts.items c.self.inside.reports.items c.hear.new.self
    (search rules) (search rules) (search rules) (search rules) (search rules) (search rules) (search rules) (search rules)
