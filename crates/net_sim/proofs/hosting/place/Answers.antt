use Rattle.std.proofs.Common.{sym}
use Rattle.net_sim.proofs.Hosts.SeatLemmas.{placed}
use Rattle.net_sim.proofs.hosting.place.Goals as goal

pub returns-then-sits_at : goal.returns-then-sits_at
returns-then-sits_at c =
    let there : _ = c.if-sits_at.ensures in
    sym (placed c.args.host c.args.seats.now c.args.likely c.requires.once there.0 there.1)
