use Rattle.std.proofs.Common.{refl}
use Rattle.host_services.specs.Turns as turns
use Rattle.sockets.specs.Requests.{served, served_notices}
use Rattle.sockets.specs.Sending.{next_out}
use Rattle.world_replay.proofs.worked_drives.worked_calls.Goals as goal

pub returns-clause-offer : goal.returns-clause-offer
unfolding next_out served served_notices turns.services_told
returns-clause-offer c = refl

pub returns-clause-nothing : goal.returns-clause-nothing
unfolding next_out served served_notices turns.services_told
returns-clause-nothing c = refl
