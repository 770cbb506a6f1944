use Rattle.simulator.proofs.WorkedPrograms.{good_words, no_output, no_read, no_write, reads_first}
use Rattle.simulator.proofs.WorkedPrograms.{unread_read, unwritten}
use Rattle.simulator.proofs.law.worked_failures.Goals as goal

pub returns-clause-unread : goal.returns-clause-unread
returns-clause-unread c = unread_read

pub returns-clause-unwritten : goal.returns-clause-unwritten
returns-clause-unwritten c = unwritten

pub returns-clause-no_read : goal.returns-clause-no_read
returns-clause-no_read c = no_read

pub returns-clause-no_write : goal.returns-clause-no_write
returns-clause-no_write c = no_write

pub returns-clause-reads_first : goal.returns-clause-reads_first
returns-clause-reads_first c = reads_first

pub returns-clause-no_output : goal.returns-clause-no_output
returns-clause-no_output c = no_output

pub returns-clause-good_words : goal.returns-clause-good_words
returns-clause-good_words c = good_words
