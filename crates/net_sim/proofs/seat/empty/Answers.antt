use Rattle.net_sim.proofs.Common.{rules, same_host, no_services, ServiceSeat, with_services}
use Rattle.net_sim.proofs.Books.LifeLoops.{one_changed}
use Rattle.net_sim.proofs.seat.empty.Goals as goal

pub loop-services-preserved : goal.loop-services-preserved
loop-services-preserved c = one_changed (λ (s : ServiceSeat). with_services (same_host c.args.host s.host) no_services s) c.args.all.now c.loop-services.all c.loop-services.services-index c.services-item.result c.stop.new.self (search rules) (search rules) c.loop-services.invariant (search rules)
