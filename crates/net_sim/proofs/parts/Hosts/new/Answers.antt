use Rattle.net_sim.proofs.Hosts.Parts.{opened}
use Rattle.net_sim.proofs.parts.Hosts.new.Goals as goal

pub invariant_of-result : goal.invariant_of-result
invariant_of-result c = rw (c.in_ok-seats.ensures, c.in_ok-services.ensures) (opened c.args.hosts.now c.requires.once)
