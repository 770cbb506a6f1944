use Rattle.net_sim.proofs.Common.{rules, refl, length, nil_from_length, all_crossed, all_told}
use Rattle.std.proofs.Common.{reverse}
use Rattle.net_sim.proofs.Hosts.Doing.{deaf_settled, nothing_settled, tended_settled}
use Rattle.net_sim.proofs.seat.ServiceSeat.settle.Goals as goal

pub returns-then-is_empty-clause-done : goal.returns-then-is_empty-clause-done
returns-then-is_empty-clause-done c =
    nothing_settled c.cross.result c.args.self.now.host c.args.seat.now.host (length c.args.notes.now.book.notices) c.args.self.now.services c.args.seat.now.program c.args.notices.items
    (all_crossed (reverse c.args.news.now) c.args.notes.now) c.cross.new.self c.args.seat.now c.args.self.now (nil_from_length c.args.notices.items (search rules)) refl refl c.cross.ensures.done

pub returns-then-not-hear_any-clause-done : goal.returns-then-not-hear_any-clause-done
returns-then-not-hear_any-clause-done c =
    deaf_settled c.tell.result c.args.self.now.host c.args.seat.now.host (length c.args.notes.now.book.notices) c.args.self.now.services c.args.seat.now.program c.args.notices.items
    (all_told c.args.self.now.host c.args.notices.items (all_crossed (reverse c.args.news.now) c.args.notes.now)) c.tell.new.self c.args.seat.now c.args.self.now (search rules) refl refl c.tell.ensures.done

pub returns-clause-done : goal.returns-clause-done
returns-clause-done c = λ s e.
    tended_settled c.args.self.now.host c.args.seat.now.host (length c.args.notes.now.book.notices) c.args.self.now.services c.args.seat.now.program c.in-Some.program s c.in_ok-program.program c.args.notices.items
    (all_told c.args.self.now.host c.args.notices.items (all_crossed (reverse c.args.news.now) c.args.notes.now)) c.tell-2.new.notes _ c.tell-2.new.self (search rules) e (search rules) (search rules) (search rules)
