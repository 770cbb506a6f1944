use Rattle.net_sim.proofs.Common.{◌≡◌, ℕ, rules, length, Some, ap, sym, ◌∙◌, accepted, NcpState, all_crossed}
use Rattle.std.proofs.Common.{reverse}
use Rattle.net_sim.proofs.Hosts.Doing.{given_by, turned_so}
use Rattle.net_sim.proofs.seat.ServiceSeat.hear.Goals as goal

pub returns-clause-done : goal.returns-clause-done
returns-clause-done c =
    let place : c.crossed.result ≡ length c.args.notes.now.book.crossings = c.crossed.ensures in
    turned_so c.settle.result c.args.self.now.host c.args.seat.now.host (length c.args.notes.now.book.notices) c.args.self.now.services c.args.seat.now.program (Some c.accept.new.self) c.in-Some.program c.accept.new.self c.in-Ok.notices.items
    (λ (s : NcpState). accepted s c.args.inbound (length c.args.notes.now.book.crossings)) (all_crossed (reverse c.args.news.now) c.args.notes.now) c.settle.new.notes c.settle.new.seat c.settle.new.self (search rules)
    (ap (λ (n : ℕ). accepted c.in-Some.program c.args.inbound n) (sym place)
    ∙ given_by (accepted c.in-Some.program c.args.inbound c.crossed.result) c.accept.result c.accept.new.self c.in-Ok.notices (λ v. v.items) (search rules) c.accept.ensures.turn) (search rules) c.settle.ensures.done
