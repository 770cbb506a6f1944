use Rattle.net_sim.proofs.Books.Marks.{covers_more}
use Rattle.net_sim.proofs.open.Open.add.Goals as goal

pub returns-clause-done : goal.returns-clause-done
returns-clause-done c = λ x host socket covers.
    covers_more c.args.self.now.hosts c.args.self.now.sockets c.add.new.self c.add-2.new.self c.args.host c.args.socket c.host_number.result c.socket_number.result c.args.lives.now x host socket c.host_number.ensures c.socket_number.ensures
    c.in_ok-add.ensures.here c.in_ok-add.ensures.others c.in_ok-add-2.ensures.here c.in_ok-add-2.ensures.others covers
