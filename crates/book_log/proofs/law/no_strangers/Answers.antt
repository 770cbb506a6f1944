use Rattle.book_log.proofs.Others.{not_text}
use Rattle.book_log.proofs.Networks.{alone}
use Rattle.book_log.proofs.law.no_strangers.Goals as goal

pub returns-clause-alone : goal.returns-clause-alone
returns-clause-alone c = alone

pub returns-clause-book : goal.returns-clause-book
returns-clause-book c = not_text
