use Rattle.host_keeps_pairing.proofs.SpokenRows.{row_said, row_unheard, row_heard, row_turned, row_peer, row_alone}
use Rattle.host_keeps_pairing.proofs.law.worked_spoken.Goals as goal

pub returns-clause-said : goal.returns-clause-said
returns-clause-said c = row_said

pub returns-clause-unheard : goal.returns-clause-unheard
returns-clause-unheard c = row_unheard

pub returns-clause-heard : goal.returns-clause-heard
returns-clause-heard c = row_heard

pub returns-clause-turned : goal.returns-clause-turned
returns-clause-turned c = row_turned

pub returns-clause-peer : goal.returns-clause-peer
returns-clause-peer c = row_peer

pub returns-clause-alone : goal.returns-clause-alone
returns-clause-alone c = row_alone
