use Rattle.std.proofs.Common.{rules}
use Rattle.net_sim.proofs.Books.InOrder.{asked_so}
use Rattle.net_sim.proofs.notes.Notes.ask.Goals as goal

pub returns-clause-done : goal.returns-clause-done
returns-clause-done c =
    asked_so c.args.host c.args.request.now c.args.self.now c.self.inside.crossed c.count-place.result c.self.inside.notices.items c.add_called.new.all.items c.self.inside.reports.items c.ask_only.new.self
    (search rules) (search rules) (search rules) (search rules) (search rules) (search rules)
