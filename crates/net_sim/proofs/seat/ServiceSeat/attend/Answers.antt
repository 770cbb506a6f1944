use Rattle.net_sim.proofs.Common.{rules, length, all_told, asked}
use Rattle.net_sim.specs.World.{turn_of}
use Rattle.net_sim.proofs.Hosts.Doing.{done_of}
use Rattle.net_sim.proofs.seat.ServiceSeat.attend.Goals as goal

pub returns-clause-done : goal.returns-clause-done
returns-clause-done c =
    done_of c.args.self.now.host (turn_of c.args.self.now.host (length c.args.notes.now.book.notices) c.args.self.now.services (c.args.program, c.args.notices.items)) c.tend.new.services c.in_ok-desk.desk
    (all_told c.args.self.now.host c.args.notices.items (asked c.args.self.now.host c.args.request.now c.args.notes.now)) c.write_asked.new.notes c.into_parts-program.result.0
    c.into_parts-program.result.1.asked.items c.into_parts-program.result.1.reports.items (search rules) (search rules) (search rules) (search rules) (search rules)
