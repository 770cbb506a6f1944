use Rattle.book_log.proofs.Once.{book_once, number_once, strangers_once}
use Rattle.book_log.proofs.law.one_reading.Goals as goal

pub returns-clause-books : goal.returns-clause-books
returns-clause-books c = book_once

pub returns-clause-strangers : goal.returns-clause-strangers
returns-clause-strangers c = strangers_once

pub returns-clause-lines : goal.returns-clause-lines
returns-clause-lines c = number_once
