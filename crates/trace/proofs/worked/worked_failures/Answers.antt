use Rattle.trace.proofs.Failures.{row_another, row_no_line, row_nothing, row_processed}
use Rattle.trace.proofs.worked.worked_failures.Goals as goal

pub returns-clause-processed : goal.returns-clause-processed
returns-clause-processed c = row_processed

pub returns-clause-nothing : goal.returns-clause-nothing
returns-clause-nothing c = row_nothing

pub returns-clause-another : goal.returns-clause-another
returns-clause-another c = row_another

pub returns-clause-no_line : goal.returns-clause-no_line
returns-clause-no_line c = row_no_line
