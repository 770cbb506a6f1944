use Rattle.net_sim.proofs.Common.{◌≡◌, ℕ, rules, length, Some, ap, sym, ◌∙◌, offered, NcpState, all_crossed}
use Rattle.std.proofs.Common.{reverse}
use Rattle.net_sim.proofs.Hosts.Doing.{given_by, turned_so}
use Rattle.net_sim.proofs.seat.ServiceSeat.go_out.Goals as goal

pub returns-clause-done : goal.returns-clause-done
returns-clause-done c =
    let place : c.crossed.result ≡ length c.args.notes.now.book.crossings = c.crossed.ensures in
    turned_so c.settle.result c.args.self.now.host c.args.seat.now.host (length c.args.notes.now.book.notices) c.args.self.now.services c.args.seat.now.program (Some c.offered.new.self) c.in-Some.program c.offered.new.self c.in-Ok.notices.items
    (λ (s : NcpState). offered s (length c.args.notes.now.book.crossings)) (all_crossed (reverse c.args.news.now) c.args.notes.now) c.settle.new.notes c.settle.new.seat c.settle.new.self (search rules)
    (ap (λ (n : ℕ). offered c.in-Some.program n) (sym place)
    ∙ given_by (offered c.in-Some.program c.crossed.result) c.offered.result c.offered.new.self c.in-Ok.notices (λ v. v.items) (search rules) c.offered.ensures.turn) (search rules) c.settle.ensures.done
