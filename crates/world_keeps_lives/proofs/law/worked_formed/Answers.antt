use Rattle.world_keeps_lives.proofs.FormedRows.{row_another_link, row_another_message, row_another_peer, row_gave, row_passed_over, row_took, row_took_both, row_took_first, row_uncrossed, row_unsaid}
use Rattle.world_keeps_lives.proofs.law.worked_formed.Goals as goal

pub returns-clause-took : goal.returns-clause-took
returns-clause-took c = row_took

pub returns-clause-gave : goal.returns-clause-gave
returns-clause-gave c = row_gave

pub returns-clause-unsaid : goal.returns-clause-unsaid
returns-clause-unsaid c = row_unsaid

pub returns-clause-another_message : goal.returns-clause-another_message
returns-clause-another_message c = row_another_message

pub returns-clause-another_peer : goal.returns-clause-another_peer
returns-clause-another_peer c = row_another_peer

pub returns-clause-another_link : goal.returns-clause-another_link
returns-clause-another_link c = row_another_link

pub returns-clause-took_both : goal.returns-clause-took_both
returns-clause-took_both c = row_took_both

pub returns-clause-took_first : goal.returns-clause-took_first
returns-clause-took_first c = row_took_first

pub returns-clause-passed_over : goal.returns-clause-passed_over
returns-clause-passed_over c = row_passed_over

pub returns-clause-uncrossed : goal.returns-clause-uncrossed
returns-clause-uncrossed c = row_uncrossed
