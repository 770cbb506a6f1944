use Rattle.std.proofs.Common.{rules}
use Rattle.net_sim.proofs.Books.InOrder.{entered_so}
use Rattle.net_sim.proofs.notes.Notes.write.Goals as goal

pub returns-clause-done : goal.returns-clause-done
returns-clause-done c =
    entered_so c.args.news.now c.args.page.asked c.args.page.called.items c.args.page.host c.args.page.notices.items c.args.page.ran.items c.args.page.reports.items c.args.self.now
    c.grow.new.self c.in_ok-place.place c.len-told.result c.add_told.new.all.items c.deref.result.now c.append.new.self.items c.append-2.new.self.items c.follow-followed.new.self
    (search rules) (search rules) (search rules) (search rules) (search rules) (search rules) (search rules) (search rules)
