use Rattle.std.proofs.Common.{refl}
use Rattle.std.specs.Fmt.{digits}
use Rattle.world_trace.proofs.worked.worked_hosts.Goals as goal

pub returns : goal.returns
unfolding digits
returns c = record { up = refl; down = refl; left_out = λ s. refl; server = refl; running = refl }
