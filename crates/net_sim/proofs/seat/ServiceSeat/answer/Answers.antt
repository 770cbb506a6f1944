use Rattle.net_sim.proofs.Common.{rules, refl, length, nil_from_length, all_told, asked}
use Rattle.net_sim.proofs.Hosts.Doing.{nothing_settled, tended_settled}
use Rattle.net_sim.proofs.seat.ServiceSeat.answer.Goals as goal

pub returns-then-is_empty-clause-done : goal.returns-then-is_empty-clause-done
returns-then-is_empty-clause-done c =
    nothing_settled c.ask.result c.args.self.now.host c.args.seat.now.host (length c.args.notes.now.book.notices) c.args.self.now.services c.args.seat.now.program c.args.notices.items
    (asked c.args.self.now.host c.args.request.now c.args.notes.now) c.ask.new.self c.args.seat.now c.args.self.now (nil_from_length c.args.notices.items (search rules)) refl refl c.ask.ensures.done

pub returns-clause-done : goal.returns-clause-done
returns-clause-done c = λ s e.
    tended_settled c.args.self.now.host c.args.seat.now.host (length c.args.notes.now.book.notices) c.args.self.now.services c.args.seat.now.program c.in-Some.program s c.in_ok-program.program c.args.notices.items
    (all_told c.args.self.now.host c.args.notices.items (asked c.args.self.now.host c.args.request.now c.args.notes.now)) c.attend.new.notes _ c.attend.new.self (search rules) e (search rules) (search rules) (search rules)
