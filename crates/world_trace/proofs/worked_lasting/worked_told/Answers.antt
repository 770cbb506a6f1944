use Rattle.world_trace.proofs.Unspent.Rows.{listening_refused, program_refused, service_refused, stopped_refused, reached_refused, typing_refused}
use Rattle.world_trace.proofs.worked_lasting.worked_told.Goals as goal

pub returns-clause-program : goal.returns-clause-program
returns-clause-program g c = λ w is. program_refused w is

pub returns-clause-service : goal.returns-clause-service
returns-clause-service g c = λ w is. service_refused w is

pub returns-clause-stopped : goal.returns-clause-stopped
returns-clause-stopped g c = λ w is. stopped_refused w is

pub returns-clause-lasting : goal.returns-clause-lasting
returns-clause-lasting g c = λ w is. program_refused w is.lasting

pub returns-clause-listening : goal.returns-clause-listening
returns-clause-listening g c = λ w is. listening_refused w is

pub returns-clause-typing : goal.returns-clause-typing
returns-clause-typing g c = λ w is. typing_refused w is

pub returns-clause-numbers : goal.returns-clause-numbers
returns-clause-numbers g c = λ w is. typing_refused w is.numbers

pub returns-clause-reached : goal.returns-clause-reached
returns-clause-reached g c = λ opening w is. reached_refused g.C.Carrier.calls opening w is

pub returns-clause-long : goal.returns-clause-long
returns-clause-long g c = λ opening w is. typing_refused w is.numbers
