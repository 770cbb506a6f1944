use Rattle.net_sim.proofs.Common.{rules, None, same_host, Seat, with_program}
use Rattle.net_sim.proofs.Books.LifeLoops.{one_changed}
use Rattle.net_sim.proofs.seat.stop.Goals as goal

pub loop-seat-preserved : goal.loop-seat-preserved
loop-seat-preserved c = one_changed (λ (s : Seat). with_program (same_host c.args.host s.host) None s) c.args.seats.now c.loop-seat.seats c.loop-seat.seat-index c.seat-item.result c.stop.new.self (search rules) (search rules) c.loop-seat.invariant (search rules)
