use Rattle.world_trace.proofs.Openings.Made.{none_made, none_taken, one_made, other_made}
use Rattle.world_trace.proofs.worked.worked_carriers.Goals as goal

pub returns : goal.returns
returns c = record { event = one_made; another = other_made; left_out = none_made; quiet = none_taken }
