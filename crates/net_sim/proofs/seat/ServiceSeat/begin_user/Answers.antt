use Rattle.net_sim.proofs.Common.{rules, length, opening_desk, user_begun}
use Rattle.net_sim.proofs.Hosts.Doing.{done_of}
use Rattle.net_sim.proofs.seat.ServiceSeat.begin_user.Goals as goal

pub returns-clause-done : goal.returns-clause-done
returns-clause-done c =
    done_of c.args.self.now.host (user_begun c.args.peer c.args.listen c.args.own c.args.self.now.services (opening_desk c.args.self.now.host (length c.args.notes.now.book.notices) c.args.program)) c.connect.new.self c.connect.new.desk
    c.args.notes.now c.write_deeds.new.notes c.into_parts-program.result.0 c.into_parts-program.result.1.asked.items c.into_parts-program.result.1.reports.items (search rules) (search rules) (search rules) (search rules) (search rules)
