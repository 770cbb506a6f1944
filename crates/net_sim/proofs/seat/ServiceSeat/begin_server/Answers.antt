use Rattle.net_sim.proofs.Common.{rules, length, opening_desk, server_begun}
use Rattle.net_sim.proofs.Hosts.Doing.{done_of}
use Rattle.net_sim.proofs.seat.ServiceSeat.begin_server.Goals as goal

pub returns-clause-done : goal.returns-clause-done
returns-clause-done c =
    done_of c.args.self.now.host (server_begun c.args.listen c.args.base c.args.self.now.services (opening_desk c.args.self.now.host (length c.args.notes.now.book.notices) c.args.program)) c.serve.new.self c.serve.new.desk
    c.args.notes.now c.write_deeds.new.notes c.into_parts-program.result.0 c.into_parts-program.result.1.asked.items c.into_parts-program.result.1.reports.items (search rules) (search rules) (search rules) (search rules) (search rules)
