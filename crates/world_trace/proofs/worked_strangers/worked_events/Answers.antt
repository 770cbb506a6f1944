use Rattle.world_trace.proofs.Common.{[], ◌∷◌, codes, refl, Offer, Out}
use Rattle.sockets.specs.Worked.{first, second, third}
use Rattle.std.specs.Fmt.{digits}
use Rattle.interface.specs.declared.crossing.Crossing.TheVariants as crossing
use Rattle.net_sim.specs.Worked.{accepting_carrier, any_carrier, message}
use Rattle.net_sim.specs.declared.event.WorldFault.TheVariants.{HasProgram, NoProgram}
use Rattle.world_replay.specs.Output.{Crossed, Refused}
use Rattle.world_trace.proofs.Beside.{traces_only}
use Rattle.world_trace.proofs.worked_strangers.worked_events.Goals as goal

pub returns-clause-said : goal.returns-clause-said
unfolding digits
returns-clause-said c = traces_only accepting_carrier (Out (message third first 2)) (Crossed (crossing.Out (message third first 2)) ∷ []) c.worked_strangers.ensures.says

pub returns-clause-asked : goal.returns-clause-asked
returns-clause-asked c = traces_only any_carrier (Offer third) (Refused NoProgram ∷ []) c.worked_strangers.ensures.offered

pub returns-clause-program : goal.returns-clause-program
returns-clause-program c = traces_only any_carrier (Out (message first second 2)) (Refused HasProgram ∷ []) c.worked_strangers.ensures.program
