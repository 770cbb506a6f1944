use Rattle.interface.specs.declared.carrier.CarrierFault.TheVariants as fault
use Rattle.world_replay.proofs.Common.{Out, Ask, Offer, HasProgram, NoProgram, Carrier, any_carrier, message, first, second, third, Happen}
use Rattle.net_sim.specs.WorkedStrangers.{fourth}
use Rattle.sockets.specs.declared.request.Request.TheVariants as request
use Rattle.world_replay.proofs.Strangers.{is_hailed, refused_only, says_only, takes_only, waits}
use Rattle.world_replay.proofs.worked_strangers.worked_strangers.Goals as goal

pub returns-clause-hailed : goal.returns-clause-hailed
returns-clause-hailed c = is_hailed

pub returns-clause-says : goal.returns-clause-says
returns-clause-says c = says_only

pub returns-clause-takes : goal.returns-clause-takes
returns-clause-takes c = takes_only

pub returns-clause-offered : goal.returns-clause-offered
returns-clause-offered c = λ new shown h. refused_only any_carrier (Happen (Offer third)) NoProgram new shown h h.gives

pub returns-clause-asked : goal.returns-clause-asked
returns-clause-asked c = λ new shown h. refused_only any_carrier (Happen (Ask third (request.Echo second 65))) NoProgram new shown h h.gives

pub returns-clause-program : goal.returns-clause-program
returns-clause-program c = λ new shown h. refused_only any_carrier (Happen (Out (message first second 2))) HasProgram new shown h h.gives

pub returns-clause-nobody : goal.returns-clause-nobody
returns-clause-nobody c = λ new shown h. refused_only any_carrier (Happen (Out (message fourth second 2))) (Carrier fault.NoSuch) new shown h h.gives

pub returns-clause-waits : goal.returns-clause-waits
returns-clause-waits c = waits
