use Rattle.book_log.proofs.Cuts.{none_over, some_over}
use Rattle.book_log.proofs.words.Words.is_over.Goals as goal

pub returns-in-Some : goal.returns-in-Some
returns-in-Some c = some_over c.args.self.now.rest _ c.in-Some.is

pub returns-in-None : goal.returns-in-None
returns-in-None c = none_over c.args.self.now.rest c.in-None.is
