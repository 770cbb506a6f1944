use Rattle.net_sim.proofs.Books.Unformed.{row_first_named, row_given, row_taken}
use Rattle.net_sim.proofs.Books.Untold.{row_arrived, row_sent}
use Rattle.net_sim.proofs.worked_formed.formed_rows.Goals as goal

pub returns-clause-taken : goal.returns-clause-taken
returns-clause-taken c = row_taken

pub returns-clause-given : goal.returns-clause-given
returns-clause-given c = row_given

pub returns-clause-arrived : goal.returns-clause-arrived
returns-clause-arrived c = row_arrived

pub returns-clause-sent : goal.returns-clause-sent
returns-clause-sent c = row_sent

pub returns-clause-first_named : goal.returns-clause-first_named
returns-clause-first_named c = row_first_named
