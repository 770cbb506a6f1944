use Rattle.net_sim.proofs.Common.{rules, length, asked, served, served_notices}
use Rattle.net_sim.proofs.Hosts.Doing.{answered_so}
use Rattle.net_sim.proofs.seat.ServiceSeat.ask.Goals as goal

pub returns-clause-served : goal.returns-clause-served
returns-clause-served c = λ s had none.
    answered_so c.args.self.now.host c.args.seat.now.host (length c.args.notes.now.book.notices) c.args.self.now.services c.asked_of.new.seat (served s c.args.request.now) c.in_ok-notices.notices.items (served_notices s c.args.request.now)
    (asked c.args.self.now.host c.args.request.now c.args.notes.now) c.answer.new.notes c.answer.new.seat c.answer.new.self (search rules) (search rules) (search rules)
