use Rattle.world_trace.proofs.Openings.Networks.{by_a_round, by_an_event, stays, uncrossed, unmoved}
use Rattle.world_trace.proofs.worked_networks.worked_networks.Goals as goal

pub returns : goal.returns
returns c = record { event = by_an_event; quiet = by_a_round; stays = stays; unmoved = unmoved; crossed = uncrossed }
