use Rattle.command_line.proofs.Verdicts.LastWord.{said_kept, said_none, said_safe}
use Rattle.command_line.proofs.law.last_words.Goals as goal

pub returns-clause-kept : goal.returns-clause-kept
returns-clause-kept c = said_kept

pub returns-clause-safe : goal.returns-clause-safe
returns-clause-safe c = said_safe

pub returns-clause-none : goal.returns-clause-none
returns-clause-none c = said_none
